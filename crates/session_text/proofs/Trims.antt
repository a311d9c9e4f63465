-- A blank at the end is cut, and nothing else.
use Rattle.std.proofs.Common.{◌≡◌, ◌≤◌, ◌+◌, ◌-◌, ℕ, Bool, true, false, List, [], ◌∷◌, ◌++◌, length, take, get_or, refl, sym, ap, ◌∙◌, cond, arith}
use Rattle.std.proofs.lemmas.List.{take_more}
use Rattle.std.proofs.Math.Seq.{take-length}
use Rattle.b_lex.specs.Bytes.{is_blank}
use Rattle.session_words.specs.Arguments.{without_end, onto_end}

end_cut : (front : List ℕ) (last : ℕ) → is_blank last ≡ true → without_end (front ++ last ∷ []) ≡ without_end front
end_cut [] last blank = ap (λ b. cond b [] (last ∷ [])) blank
end_cut (b ∷ front) last blank = ap (onto_end b) (end_cut front last blank)

onto_more : (b : ℕ) (front : List ℕ) (last : ℕ) → onto_end b (front ++ last ∷ []) ≡ b ∷ (front ++ last ∷ [])
onto_more b [] last = refl
onto_more b (c ∷ front) last = refl

end_kept : (front : List ℕ) (last : ℕ) → is_blank last ≡ false → without_end (front ++ last ∷ []) ≡ front ++ last ∷ []
end_kept [] last plain = ap (λ b. cond b [] (last ∷ [])) plain
end_kept (b ∷ front) last plain = ap (onto_end b) (end_kept front last plain) ∙ onto_more b front last

-- the bytes but the last, and the last
split_end : (rest : List ℕ) → 1 ≤ length rest → take (length rest - 1) rest ++ get_or rest (length rest - 1) 0 ∷ [] ≡ rest
split_end rest some =
    let n : length rest - 1 + 1 ≡ length rest = omega arith in
    sym (take_more rest (length rest - 1) 0 (omega arith)) ∙ ap (λ k. take k rest) n ∙ take-length rest

pub cut_last : (rest : List ℕ) → 1 ≤ length rest → is_blank (get_or rest (length rest - 1) 0) ≡ true → without_end (take (length rest - 1) rest) ≡ without_end rest
cut_last rest some blank =
    sym (end_cut (take (length rest - 1) rest) (get_or rest (length rest - 1) 0) blank) ∙ ap without_end (split_end rest some)

pub kept_last : (rest : List ℕ) → 1 ≤ length rest → is_blank (get_or rest (length rest - 1) 0) ≡ false → rest ≡ without_end rest
kept_last rest some plain =
    sym (split_end rest some) ∙ sym (end_kept (take (length rest - 1) rest) (get_or rest (length rest - 1) 0) plain)
    ∙ ap without_end (split_end rest some)
