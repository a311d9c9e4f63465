-- A state has one spelling: what is unpacked from bytes is the state of the face whose bytes they are, and each
-- state of the face is unpacked from its bytes.
use Rattle.std.proofs.Common.{◌≡◌, ◌∙◌, ◌≤◌, sym, ap, subst, refl, ℕ, zero, suc, ◌==◌, append_assoc, Bool, true, false, List, [], ◌∷◌, ◌++◌, nat_le, Option, Some, None, if◌then◌else◌}
use Rattle.b_values.specs.ReadingDescent.{Found, with_found}
use Rattle.b_values.specs.Types.{HasType}
use Rattle.b_values.specs.Values.{IsValue, node_count}
use Rattle.b_values.specs.declared.types.Face.{Face}
use Rattle.b_values.specs.declared.types.NameFace.{NameFace}
use Rattle.b_values.specs.declared.types.SetFace.{SetFace}
use Rattle.b_values.specs.declared.types.Ty.{Ty}
use Rattle.b_values.specs.declared.values.State.{State}
use Rattle.b_values.specs.declared.values.State.TheVariants.{Root, Constants, Running}
use Rattle.b_values.specs.declared.values.Value.{Value}
use Rattle.engine_face.specs.Packing.{IsOneSpelling}
use Rattle.engine_face.specs.Typing.{IsOfType, AreOfTypes, IsStateOf}
use Rattle.pack_state.specs.Bytes.{value_bytes, values_bytes, state_bytes}
use Rattle.pack_state.specs.ByteLaws.{found_is, if_is, le_true, le_from, eq_from}
use Rattle.pack_state.specs.SoundLaws.{type_reads}
use Rattle.pack_state.specs.CompleteLaws.{type_reads_back}
use Rattle.pack_state.specs.Spelled.{Unpacks}
use Rattle.pack_state.specs.Unpacking.{reader, read_kept, read_names, whole, end_of, read_constants, read_running, unpack_of}

append_none : (xs : List ℕ) → xs ++ [] ≡ xs
append_none [] = refl
append_none (x ∷ xs) = ap (λ (bs : List ℕ). x ∷ bs) (append_none xs)

-- ---- sound

-- values of the names that stand at the front of the bytes, with what follows them
pub record AreNamed (sets : List SetFace) (names : List NameFace) (bytes : List ℕ) (vs : List Value) (rest : List ℕ) : Type 0 where
  pub typed : AreOfTypes sets names vs
  pub front : bytes ≡ values_bytes vs ++ rest

names_are : (sets : List SetFace) (names : List NameFace) (bytes : List ℕ) (p : List Value × List ℕ) → read_names sets names bytes ≡ Some p → AreNamed sets names bytes p.0 p.1
names_are sets [] bytes p e = let same : ([], bytes) ≡ p = cc in subst (λ (q : List Value × List ℕ). AreNamed sets [] bytes q.0 q.1) same (record { typed = tt; front = refl })
names_are sets (name ∷ names) bytes p e =
    let f = found_is (read_kept sets name.ty bytes) (λ v rest. with_found (read_names sets names rest) (λ vs more. Some (v ∷ vs, more))) p e in
    let r = found_is (reader sets name.ty bytes) (λ v rest. if nat_le (node_count v) 1000000 then Some (v, rest) else None) f.0 f.1.0 in
    let read = type_reads sets name.ty bytes r.0 r.1.0 in
    let t = if_is (nat_le (node_count r.0.0) 1000000) (r.0.0, r.0.1) f.0 r.1.1 in
    let first : IsOfType sets name.ty r.0.0 = record { typed = read.typed; kept = record { value = read.is_value; size = le_from (node_count r.0.0) 1000000 t.0 }; words = read.words } in
    let here : IsOfType sets name.ty f.0.0 = subst (λ (q : Value × List ℕ). IsOfType sets name.ty q.0) t.1 first in
    let bytes_here : bytes ≡ value_bytes f.0.0 ++ f.0.1 = subst (λ (q : Value × List ℕ). bytes ≡ value_bytes q.0 ++ q.1) t.1 read.whole in
    let g = found_is (read_names sets names f.0.1) (λ vs more. Some (f.0.0 ∷ vs, more)) p f.1.1 in
    let more = names_are sets names f.0.1 g.0 g.1.0 in
    let same : (f.0.0 ∷ g.0.0, g.0.1) ≡ p = cc in
    subst (λ (q : List Value × List ℕ). AreNamed sets (name ∷ names) bytes q.0 q.1) same (record {
      typed = (here, more.typed);
      front = bytes_here ∙ ap (λ (bs : List ℕ). value_bytes f.0.0 ++ bs) more.front ∙ sym (append_assoc (value_bytes f.0.0) (values_bytes g.0.0) g.0.1);
    })

whole_is : (t s : State) (rest : List ℕ) → whole t rest ≡ Some s → (rest ≡ []) × (t ≡ s)
whole_is t s [] e = (refl, cc)
whole_is t s (b ∷ bs) e = absurd (cc)

ended_is : (o : Found State) (s : State) → end_of o ≡ Some s → (p : State × List ℕ) × ((o ≡ Some p) × (whole p.0 p.1 ≡ Some s))
ended_is None s e = absurd (cc)
ended_is (Some p) s e = (p, (refl, e))

constants_are : (face : Face) (bytes : List ℕ) (s : State) → read_constants face bytes ≡ Some s → Unpacks face (1 ∷ bytes) s
constants_are face bytes s e =
    let w = ended_is (with_found (read_names face.sets face.constants bytes) (λ cs rest. Some (Constants cs, rest))) s e in
    let f = found_is (read_names face.sets face.constants bytes) (λ cs rest. Some (Constants cs, rest)) w.0 w.1.0 in
    let cs = names_are face.sets face.constants bytes f.0 f.1.0 in
    let same : (Constants f.0.0, f.0.1) ≡ w.0 = cc in
    let end = whole_is w.0.0 s w.0.1 w.1.1 in
    let state : Constants f.0.0 ≡ s = ap (λ (q : State × List ℕ). q.0) same ∙ end.1 in
    let nothing : f.0.1 ≡ [] = ap (λ (q : State × List ℕ). q.1) same ∙ end.0 in
    subst (Unpacks face (1 ∷ bytes)) state (record {
      fits = cs.typed;
      bytes_of = ap (λ (bs : List ℕ). 1 ∷ bs) (cs.front ∙ ap (λ (bs : List ℕ). values_bytes f.0.0 ++ bs) nothing ∙ append_none (values_bytes f.0.0));
    })

running_are : (face : Face) (bytes : List ℕ) (s : State) → read_running face bytes ≡ Some s → Unpacks face (2 ∷ bytes) s
running_are face bytes s e =
    let w = ended_is (with_found (read_names face.sets face.constants bytes) (λ cs rest. with_found (read_names face.sets face.variables rest) (λ vs more. Some (Running cs vs, more)))) s e in
    let f = found_is (read_names face.sets face.constants bytes) (λ cs rest. with_found (read_names face.sets face.variables rest) (λ vs more. Some (Running cs vs, more))) w.0 w.1.0 in
    let cs = names_are face.sets face.constants bytes f.0 f.1.0 in
    let g = found_is (read_names face.sets face.variables f.0.1) (λ vs more. Some (Running f.0.0 vs, more)) w.0 f.1.1 in
    let vs = names_are face.sets face.variables f.0.1 g.0 g.1.0 in
    let same : (Running f.0.0 g.0.0, g.0.1) ≡ w.0 = cc in
    let end = whole_is w.0.0 s w.0.1 w.1.1 in
    let state : Running f.0.0 g.0.0 ≡ s = ap (λ (q : State × List ℕ). q.0) same ∙ end.1 in
    let nothing : g.0.1 ≡ [] = ap (λ (q : State × List ℕ). q.1) same ∙ end.0 in
    subst (Unpacks face (2 ∷ bytes)) state (record {
      fits = (cs.typed, vs.typed);
      bytes_of = ap (λ (bs : List ℕ). 2 ∷ bs) (cs.front ∙ ap (λ (bs : List ℕ). values_bytes f.0.0 ++ bs) (vs.front ∙ ap (λ (bs : List ℕ). values_bytes g.0.0 ++ bs) nothing ∙ append_none (values_bytes g.0.0)));
    })

state_by : (face : Face) (kind : ℕ) (bytes : List ℕ) (s : State) (a b c : Bool) → (kind == 0) ≡ a → (kind == 1) ≡ b → (kind == 2) ≡ c
    → (if a then whole Root bytes else (if b then read_constants face bytes else (if c then read_running face bytes else None))) ≡ Some s → Unpacks face (kind ∷ bytes) s
state_by face kind bytes s true b c i j k e =
    let end = whole_is Root s bytes e in
    subst (Unpacks face (kind ∷ bytes)) end.1 (record { fits = tt; bytes_of = ap (λ (n : ℕ). n ∷ bytes) (eq_from kind 0 i) ∙ ap (λ (bs : List ℕ). 0 ∷ bs) end.0 })
state_by face kind bytes s false true c i j k e = subst (λ (n : ℕ). Unpacks face (n ∷ bytes) s) (sym (eq_from kind 1 j)) (constants_are face bytes s e)
state_by face kind bytes s false false true i j k e = subst (λ (n : ℕ). Unpacks face (n ∷ bytes) s) (sym (eq_from kind 2 k)) (running_are face bytes s e)
state_by face kind bytes s false false false i j k e = absurd (cc)

-- what is unpacked is a state of the face, and the bytes are its own
pub unpacks : (face : Face) (bytes : List ℕ) (s : State) → unpack_of face bytes ≡ Some s → Unpacks face bytes s
unpacks face [] s e = absurd (cc)
unpacks face (kind ∷ bytes) s e = state_by face kind bytes s (kind == 0) (kind == 1) (kind == 2) refl refl refl e

-- so a state has one spelling
pub one_spelling : (face : Face) → IsOneSpelling (unpack_of face)
one_spelling face p q s e f = (unpacks face p s e).bytes_of ∙ sym (unpacks face q s f).bytes_of

-- ---- complete

names_back : (sets : List SetFace) (names : List NameFace) (vs : List Value) (rest : List ℕ) → AreOfTypes sets names vs → read_names sets names (values_bytes vs ++ rest) ≡ Some (vs, rest)
names_back sets [] [] rest h = refl
names_back sets [] (v ∷ vs) rest h = absurd h
names_back sets (name ∷ names) [] rest h = absurd h
names_back sets (name ∷ names) (v ∷ vs) rest h =
    let first = h.0 in
    ap (λ (bs : List ℕ). with_found (read_kept sets name.ty bs) (λ v rest. with_found (read_names sets names rest) (λ vs more. Some (v ∷ vs, more)))) (append_assoc (value_bytes v) (values_bytes vs) rest)
    ∙ ap (λ (o : Found Value). with_found (with_found o (λ v rest. if nat_le (node_count v) 1000000 then Some (v, rest) else None)) (λ v rest. with_found (read_names sets names rest) (λ vs more. Some (v ∷ vs, more))))
    (type_reads_back sets name.ty v (record { typed = first.typed; is_value = first.kept.value; words = first.words; size = first.kept.size }) (values_bytes vs ++ rest))
    ∙ ap (λ (b : Bool). with_found (if b then Some (v, values_bytes vs ++ rest) else None) (λ v rest. with_found (read_names sets names rest) (λ vs more. Some (v ∷ vs, more)))) (le_true (node_count v) 1000000 first.kept.size)
    ∙ ap (λ (o : Found (List Value)). with_found o (λ vs more. Some (v ∷ vs, more))) (names_back sets names vs rest h.1)

-- each state of the face is unpacked from its bytes
pub unpacked_back : (face : Face) (s : State) → IsStateOf face s → unpack_of face (state_bytes s) ≡ Some s
unpacked_back face Root h = refl
unpacked_back face (Constants cs) h =
    ap (λ (bs : List ℕ). read_constants face bs) (sym (append_none (values_bytes cs)))
    ∙ ap (λ (o : Found (List Value)). end_of (with_found o (λ cs rest. Some (Constants cs, rest)))) (names_back face.sets face.constants cs [] h)
unpacked_back face (Running cs vs) h =
    ap (λ (o : Found (List Value)). end_of (with_found o (λ cs rest. with_found (read_names face.sets face.variables rest) (λ vs more. Some (Running cs vs, more))))) (names_back face.sets face.constants cs (values_bytes vs) h.0)
    ∙ ap (λ (bs : List ℕ). end_of (with_found (read_names face.sets face.variables bs) (λ vs more. Some (Running cs vs, more)))) (sym (append_none (values_bytes vs)))
    ∙ ap (λ (o : Found (List Value)). end_of (with_found o (λ vs more. Some (Running cs vs, more)))) (names_back face.sets face.variables vs [] h.1)

-- where nothing is unpacked, no state of the face has the bytes
pub no_state : (face : Face) (bytes : List ℕ) → unpack_of face bytes ≡ None → (s : State) → Unpacks face bytes s → ⊥
no_state face bytes none s is = let bad : None ≡ Some s = sym none ∙ ap (unpack_of face) is.bytes_of ∙ unpacked_back face s is.fits in cc
