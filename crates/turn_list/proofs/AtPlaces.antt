-- Lists of turns and passes, at one place and along a loop.
use Rattle.std.proofs.Common.{◌≡◌, ◌≢◌, ℕ, zero, suc, ◌+◌, ◌-◌, ◌<◌, ◌≤◌, List, [], ◌∷◌, ◌++◌, length, map, take, drop, get_or, set, refl, sym, ap, ◌∙◌, subst, arith, Some, append_assoc, append-nil, length-append, length-take}
use Rattle.std.specs.Prelude.{slice_get, All}
use Rattle.std.specs.List.{AllZip}
use Rattle.std.specs.Borrow.{MutBor}
use Rattle.std.specs.Fn.{Once}
use Rattle.std.proofs.lemmas.List.{length-map, map-append, map-set, get_or-map, map_more, drop_more, drop_all, take_all, get_or_at}
use Rattle.std.proofs.lemmas.List.Edits.{map_over_more}
use Rattle.std.proofs.lemmas.Grind.{take_at_read}
use Rattle.std.proofs.lemmas.Slice.Zip.{all_zipped_more}
use Rattle.turn_lock.specs.declared.kept.Kept.{Ghosts}
use Rattle.turn_lock.specs.declared.turn.Pass.{Pass}
use Rattle.turn_lock.specs.declared.turn.Turn.{Turn}
use Rattle.turn_lock.specs.Histories.{Begins}
use Rattle.turn_lock.specs.Passes.{Known, joined_known}
use Rattle.turn_lock.specs.Jobs.{Keeps, Ran}
use Rattle.turn_lock.specs.Turns.{known, tag_of, IsPassOf}
use Rattle.turn_list.specs.Lists.{ArePassesOf, all_known, joined_all}
use Rattle.turn_list.specs.Places.{KeepsAt, RanAt}

module _ {A B : Type 0} (R : A → B → Type 0) where
  pub zip_length : (xs : List A) (ys : List B) → AllZip R xs ys → length xs ≡ length ys
  zip_length [] [] z = refl
  zip_length [] (y ∷ ys) z = absurd z
  zip_length (x ∷ xs) [] z = absurd z
  zip_length (x ∷ xs) (y ∷ ys) z = ap suc (zip_length xs ys z.1)

  pub zip_at : (xs : List A) (ys : List B) (i : ℕ) (d : A) (e : B) → AllZip R xs ys → i < length xs → R (get_or xs i d) (get_or ys i e)
  zip_at [] [] i d e z h = absurd (omega arith)
  zip_at [] (y ∷ ys) i d e z h = absurd z
  zip_at (x ∷ xs) [] i d e z h = absurd z
  zip_at (x ∷ xs) (y ∷ ys) zero d e z h = z.0
  zip_at (x ∷ xs) (y ∷ ys) (suc i) d e z h = zip_at xs ys i d e z.1 (omega arith)

  pub zip_set : (xs : List A) (ys : List B) (i : ℕ) (d : A) (y : B) → AllZip R xs ys → i < length xs → R (get_or xs i d) y → AllZip R xs (set ys i y)
  zip_set [] [] i d w z h r = absurd (omega arith)
  zip_set [] (y ∷ ys) i d w z h r = absurd z
  zip_set (x ∷ xs) [] i d w z h r = absurd z
  zip_set (x ∷ xs) (y ∷ ys) zero d w z h r = (r, z.1)
  zip_set (x ∷ xs) (y ∷ ys) (suc i) d w z h r = (z.0, zip_set xs ys i d w z.1 (omega arith) r)

pub some_at : {A : Type 0} (xs : List A) (i : ℕ) (x : A) → i < length xs → x ≡ get_or xs i x → slice_get xs i ≡ Some x
some_at [] i x h e = absurd (omega arith)
some_at (y ∷ ys) zero x h e = ap Some (sym e)
some_at (y ∷ ys) (suc i) x h e = some_at ys i x (omega arith) e

pub mapped_at : {A B : Type 0} (f : A → B) (xs : List A) (i : ℕ) (d : A) → i < length xs → slice_get (map f xs) i ≡ Some (f (get_or xs i d))
mapped_at f [] i d h = absurd (omega arith)
mapped_at f (x ∷ xs) zero d h = refl
mapped_at f (x ∷ xs) (suc i) d h = mapped_at f xs i d (omega arith)

module _ {Value Tag Entry : Type 0} {g : Ghosts Value Tag Entry} where
  pub same_length : (turns : List (Turn Value Tag Entry)) (passes : List (Pass Value Tag Entry g)) → ArePassesOf turns passes → length turns ≡ length passes
  same_length turns passes z = zip_length IsPassOf turns passes z

  pub pass_at : (turns : List (Turn Value Tag Entry)) (passes : List (Pass Value Tag Entry g)) (i : ℕ) (turn : Turn Value Tag Entry) (d : Pass Value Tag Entry g)
      → ArePassesOf turns passes → i < length turns → turn ≡ get_or turns i turn → IsPassOf turn (get_or passes i d)
  pass_at turns passes i turn d z h e = subst (λ (t : Turn Value Tag Entry). IsPassOf t (get_or passes i d)) (sym e) (zip_at IsPassOf turns passes i turn d z h)

  pub pass_set : (turns : List (Turn Value Tag Entry)) (passes : List (Pass Value Tag Entry g)) (i : ℕ) (turn : Turn Value Tag Entry) (pass : Pass Value Tag Entry g)
      → ArePassesOf turns passes → i < length turns → turn ≡ get_or turns i turn → IsPassOf turn pass → ArePassesOf turns (set passes i pass)
  pass_set turns passes i turn pass z h e r = zip_set IsPassOf turns passes i turn pass z h (subst (λ (t : Turn Value Tag Entry). IsPassOf t pass) e r)

  module _ {Answer Job : Type 0} (call : Once Job (MutBor Value × Unit {0}) (Answer × (MutBor Value × Unit {0}))) where
    pub keeps_at : (turns : List (Turn Value Tag Entry)) (passes : List (Pass Value Tag Entry g)) (i : ℕ) (turn : Turn Value Tag Entry) (d : Pass Value Tag Entry g) (job : Job)
        → ArePassesOf turns passes → i < length turns → turn ≡ get_or turns i turn → KeepsAt g.tag g.fits g.history call turns (all_known passes) i job
        → Keeps (g.fits (tag_of g.tag turn)) g.history call (known (get_or passes i d)).seen job
    keeps_at turns passes i turn d job z h e keeps = keeps turn (known (get_or passes i d)) (some_at turns i turn h e) (mapped_at known passes i d (omega (arith, same_length turns passes z)))

    pub ran_at : (turns : List (Turn Value Tag Entry)) (passes : List (Pass Value Tag Entry g)) (i : ℕ) (turn : Turn Value Tag Entry) (d pass : Pass Value Tag Entry g) (job : Job) (answer : Answer)
        → ArePassesOf turns passes → i < length turns → turn ≡ get_or turns i turn → Ran (g.fits (tag_of g.tag turn)) g.history call job answer (known (get_or passes i d)) (known pass)
        → Begins (known (get_or passes i d)).seen (known pass).seen → RanAt g.tag g.fits g.history call turns (all_known passes) (all_known (set passes i pass)) i job answer
    ran_at turns passes i turn d pass job answer z h e ran begins = record {
      turn = turn;
      knew = known (get_or passes i d);
      knows = known pass;
      turn_is = some_at turns i turn h e;
      knew_is = mapped_at known passes i d (omega (arith, same_length turns passes z));
      ran = ran;
      begins = begins;
      only = map-set known passes i pass;
    }

pub none_joined : {E : Type 0} (into : List (Known E)) → joined_all into [] ≡ into
none_joined [] = refl
none_joined (first ∷ into) = refl

-- the last of the others is joined first
pub joined_last : {E : Type 0} (into others : List (Known E)) (other : Known E) (d : Known E) → length others < length into
    → joined_all (set into (length others) (joined_known (get_or into (length others) d) other)) others ≡ joined_all into (others ++ other ∷ [])
joined_last [] others other d h = absurd (omega arith)
joined_last (one ∷ into) [] other d h = ap (λ l. joined_known one other ∷ l) (sym (none_joined into))
joined_last (one ∷ into) (first ∷ others) other d h = ap (λ l. joined_known one first ∷ l) (joined_last into others other d (omega arith))

module _ {A B : Type 0} (R : A → B → Type 0) where
  pub zip_last : (xs : List A) (ys : List B) (y : B) (d : A) → length ys < length xs → AllZip R (take (length (ys ++ y ∷ [])) xs) (ys ++ y ∷ []) → AllZip R (take (length ys) xs) ys × R (get_or xs (length ys) d) y
  zip_last [] ys y d h z = absurd (omega arith)
  zip_last (x ∷ xs) [] y d h z = (tt, z.0)
  zip_last (x ∷ xs) (first ∷ ys) y d h z = let t = zip_last xs ys y d (omega arith) z.1 in ((z.0, t.0), t.1)

  pub zip_more : (xs : List A) (ys : List B) (i : ℕ) (d : A) (y : B) → i < length xs → AllZip R (take i xs) ys → R (get_or xs i d) y → AllZip R (take (i + 1) xs) (ys ++ y ∷ [])
  zip_more xs ys i d y h z r = subst (λ (l : List A). AllZip R l (ys ++ y ∷ [])) (sym (take_at_read xs i d h).1) (all_zipped_more R (take i xs) ys (get_or xs i d) y z r)

module _ {A B C : Type 0} (f : A → B) (h : C → B) where
  -- what is made of the items so far, and of those that are left, makes the whole
  pub front_moves : (xs xs' : List A) (x : A) (ys ys' : List C) (y : C) (whole : List B) → xs' ≡ xs ++ x ∷ [] → ys ≡ y ∷ ys' → f x ≡ h y → map f xs ++ map h ys ≡ whole → map f xs' ++ map h ys' ≡ whole
  front_moves xs xs' x ys ys' y whole added taken same so_far =
      ap (λ l. map f l ++ map h ys') added ∙ (ap (λ l. l ++ map h ys') (map-append f xs (x ∷ [])) ∙ (append_assoc (map f xs) (f x ∷ []) (map h ys')
      ∙ (ap (λ b. map f xs ++ (b ∷ map h ys')) same ∙ (ap (λ l. map f xs ++ map h l) (sym taken) ∙ so_far))))

  pub front_ends : (xs : List A) (ys whole values : List C) → length ys ≡ 0 → map f xs ++ map h ys ≡ map h whole → whole ≡ values → map f xs ≡ map h values
  front_ends xs [] whole values e so_far is = sym (append-nil (map f xs)) ∙ (so_far ∙ ap (map h) is)
  front_ends xs (y ∷ ys) whole values e so_far is = absurd (omega arith)

module _ {A : Type 0} (f : A → A) where
  -- the elements from i on are as before
  pub untouched : (knowns xs : List A) (i : ℕ) (d : A) → i < length knowns → xs ≡ map f (take i knowns) ++ drop i knowns → get_or xs i d ≡ get_or knowns i d
  untouched knowns xs i d h e = let long : length (map f (take i knowns)) ≡ i = omega (arith, length-map (take i knowns) f, length-take i knowns) in
      ap (λ l. get_or l i d) (e ∙ ap (λ l. map f (take i knowns) ++ l) (drop_more knowns i d h)) ∙ get_or_at (map f (take i knowns)) _ _ d i long

  pub all_changed : (knowns xs : List A) (n : ℕ) → length knowns ≤ n → xs ≡ map f (take n knowns) ++ drop n knowns → xs ≡ map f knowns
  all_changed knowns xs n h e = e ∙ (ap (λ l. map f (take n knowns) ++ l) (drop_all n knowns h) ∙ (append-nil (map f (take n knowns)) ∙ ap (map f) (take_all n knowns h)))

module _ {Value Tag Entry : Type 0} {g : Ghosts Value Tag Entry} where
  pub opened_more : (turns turns' : List (Turn Value Tag Entry)) (passes passes' : List (Pass Value Tag Entry g)) (turn : Turn Value Tag Entry) (pass : Pass Value Tag Entry g) → turns' ≡ turns ++ turn ∷ [] → passes' ≡ passes ++ pass ∷ []
      → ArePassesOf turns passes → IsPassOf turn pass → ArePassesOf turns' passes'
  opened_more turns turns' passes passes' turn pass e e' z r = subst (λ (t : List (Turn Value Tag Entry)). ArePassesOf t passes') (sym e) (subst (λ (p : List (Pass Value Tag Entry g)). ArePassesOf (turns ++ turn ∷ []) p) (sym e') (all_zipped_more IsPassOf turns passes turn pass z r))

  pub split_more : (turns : List (Turn Value Tag Entry)) (split split' : List (Pass Value Tag Entry g)) (i : ℕ) (turn : Turn Value Tag Entry) (pass : Pass Value Tag Entry g) → i < length turns → turn ≡ get_or turns i turn → split' ≡ split ++ pass ∷ []
      → ArePassesOf (take i turns) split → IsPassOf turn pass → ArePassesOf (take (i + 1) turns) split'
  split_more turns split split' i turn pass h e e' z r = subst (λ (p : List (Pass Value Tag Entry g)). ArePassesOf (take (i + 1) turns) p) (sym e') (zip_more IsPassOf turns split i turn pass h z (subst (λ (t : Turn Value Tag Entry). IsPassOf t pass) e r))

  -- the pass at i is changed by f
  pub known_more : (f : Known Entry → Known Entry) (knowns : List (Known Entry)) (passes : List (Pass Value Tag Entry g)) (i : ℕ) (d pass : Pass Value Tag Entry g) → i < length knowns → i < length passes
      → all_known passes ≡ map f (take i knowns) ++ drop i knowns → known pass ≡ f (known (get_or passes i d)) → all_known (set passes i pass) ≡ map f (take (i + 1) knowns) ++ drop (i + 1) knowns
  known_more f knowns passes i d pass h h' so_far is = map-set known passes i pass ∙ (ap (set (all_known passes) i) is
      ∙ map_over_more f knowns (all_known passes) i (known (get_or passes i d)) h so_far (sym (get_or-map known passes i d (known (get_or passes i d)) h')))

  -- what the pass at i knows is what it knew before the loop
  pub known_before : (f : Known Entry → Known Entry) (knowns : List (Known Entry)) (passes : List (Pass Value Tag Entry g)) (i : ℕ) (d : Pass Value Tag Entry g) → i < length knowns → i < length passes
      → all_known passes ≡ map f (take i knowns) ++ drop i knowns → known (get_or passes i d) ≡ get_or knowns i (known d)
  known_before f knowns passes i d h h' so_far = sym (get_or-map known passes i d (known d) h') ∙ untouched f knowns (all_known passes) i (known d) h so_far

  pub split_known_more : (f h : Known Entry → Known Entry) (knowns : List (Known Entry)) (passes split split' : List (Pass Value Tag Entry g)) (i : ℕ) (d pass : Pass Value Tag Entry g) → i < length knowns → i < length passes
      → all_known passes ≡ map f (take i knowns) ++ drop i knowns → split' ≡ split ++ pass ∷ [] → known pass ≡ h (known (get_or passes i d)) → all_known split ≡ map h (take i knowns) → all_known split' ≡ map h (take (i + 1) knowns)
  split_known_more f h knowns passes split split' i d pass lt lt' left added is so_far = ap all_known added ∙ (map-append known split (pass ∷ []) ∙ (ap (λ l. l ++ known pass ∷ []) so_far
      ∙ (ap (λ k. map h (take i knowns) ++ k ∷ []) (is ∙ ap h (known_before f knowns passes i d lt lt' left)) ∙ sym (map_more h knowns i (known d) lt))))

  pub joined_more : (into before others : List (Pass Value Tag Entry g)) (other pass : Pass Value Tag Entry g) (i : ℕ) (d : Pass Value Tag Entry g) → before ≡ others ++ other ∷ [] → i ≡ length others → i < length into
      → known pass ≡ joined_known (known (get_or into i d)) (known other) → joined_all (all_known (set into i pass)) (all_known others) ≡ joined_all (all_known into) (all_known before)
  joined_more into before others other pass i d is at fits told =
      let knowns : List (Known Entry) = all_known into in let rest : List (Known Entry) = all_known others in
      let long : length rest ≡ i = length-map others known ∙ sym at in
      let read : known (get_or into i d) ≡ get_or knowns i (known d) = sym (get_or-map known into i d (known d) fits) in
      ap (λ l. joined_all l rest) (map-set known into i pass ∙ ap (set knowns i) (told ∙ ap (λ k. joined_known k (known other)) read))
      ∙ (subst (λ (n : ℕ). joined_all (set knowns n (joined_known (get_or knowns n (known d)) (known other))) rest ≡ joined_all knowns (rest ++ known other ∷ [])) long
      (joined_last knowns rest (known other) (known d) (omega (arith, long, length-map into known)))
      ∙ ap (joined_all knowns) (sym (map-append known others (other ∷ [])) ∙ ap all_known (sym is)))

  pub fewer : (turns : List (Turn Value Tag Entry)) (before others : List (Pass Value Tag Entry g)) (other : Pass Value Tag Entry g) → before ≡ others ++ other ∷ [] → length before ≤ length turns → length others < length turns
  fewer turns before others other is within = omega (arith, ap length is, length-append others (other ∷ []))

  pub last_pass : (turns : List (Turn Value Tag Entry)) (before others : List (Pass Value Tag Entry g)) (other : Pass Value Tag Entry g) (i : ℕ) (turn : Turn Value Tag Entry) → before ≡ others ++ other ∷ [] → length before ≤ length turns
      → ArePassesOf (take (length before) turns) before → i ≡ length others → turn ≡ get_or turns i turn → ArePassesOf (take (length others) turns) others × IsPassOf turn other
  last_pass turns before others other i turn is within z at e =
      let both = zip_last IsPassOf turns others other turn (fewer turns before others other is within) (subst (λ (l : List (Pass Value Tag Entry g)). ArePassesOf (take (length l) turns) l) is z) in
      (both.0, subst (λ (t : Turn Value Tag Entry). IsPassOf t other) (sym (e ∙ ap (λ (n : ℕ). get_or turns n turn) at)) both.1)

  pub all_joined : (into others : List (Pass Value Tag Entry g)) (whole : List (Known Entry)) → length others ≡ 0 → joined_all (all_known into) (all_known others) ≡ whole → all_known into ≡ whole
  all_joined into [] whole e joined = sym (none_joined (all_known into)) ∙ joined
  all_joined into (other ∷ others) whole e joined = absurd (omega arith)
