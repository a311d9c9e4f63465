-- Lists that are taken apart from behind.
use Rattle.std.proofs.Common.{◌≡◌, false, List, [], ◌∷◌, ◌++◌, map, fold, reverse, refl, sym, ap, ◌∙◌, append_assoc}
use Rattle.std.proofs.lemmas.List.{append-nil, reverse-append}
use Rattle.b_ast.specs.declared.Pred.{Pred}
use Rattle.b_ast.specs.declared.Formula.{Formula}
use Rattle.b_ast.specs.declared.machine.MachineText.{MachineText}
use Rattle.b_machine_grammar.specs.declared.trees.Clause.{Clause}
use Rattle.b_machine_grammar.specs.declared.trees.Clause.TheVariants as clause
use Rattle.b_machine_grammar.specs.declared.trees.DefText.{DefText}
use Rattle.b_clauses.specs.Clauses.{definitions_in, others_in, is_definitions, texts_of, others_of, predicate, with_clause}

-- the last of a list comes first from behind
turned_last : {X : Type 0} (xs : List X) (x : X) → reverse (xs ++ x ∷ []) ≡ x ∷ reverse xs
turned_last xs x = reverse-append xs (x ∷ [])

-- one more text
pub texts_on : (left rest found more all : List DefText) (t : DefText) → left ++ reverse found ≡ all → left ≡ rest ++ t ∷ [] → more ≡ found ++ t ∷ [] → rest ++ reverse more ≡ all
texts_on left rest found more all t h e f =
    ap (λ (m : List DefText). rest ++ reverse m) f
    ∙ (ap (λ (m : List DefText). rest ++ m) (turned_last found t)
    ∙ (sym (append_assoc rest (t ∷ []) (reverse found))
    ∙ (ap (λ (m : List DefText). m ++ reverse found) (sym e) ∙ h)))

-- one more clause
pub clause_turned : (found more : List Clause) (c : Clause) → more ≡ found ++ c ∷ [] → reverse more ≡ c ∷ reverse found
clause_turned found more c e = ap reverse e ∙ turned_last found c

definitions_last : (cs : List Clause) (c : Clause) → definitions_in (cs ++ c ∷ []) ≡ definitions_in cs ++ texts_of c
definitions_last [] c = append-nil (texts_of c)
definitions_last (b ∷ cs) c = ap (λ (ts : List DefText). texts_of b ++ ts) (definitions_last cs c) ∙ sym (append_assoc (texts_of b) (definitions_in cs) (texts_of c))

others_last : (cs : List Clause) (c : Clause) → others_in (cs ++ c ∷ []) ≡ others_in cs ++ others_of c
others_last [] c = append-nil (others_of c)
others_last (b ∷ cs) c = ap (λ (ds : List Clause). others_of b ++ ds) (others_last cs c) ∙ sym (append_assoc (others_of b) (others_in cs) (others_of c))

-- one more clause's definitions
pub definitions_on : (left rest : List Clause) (c : Clause) (found more all : List DefText) → definitions_in left ++ reverse found ≡ all → left ≡ rest ++ c ∷ [] → reverse more ≡ texts_of c ++ reverse found → definitions_in rest ++ reverse more ≡ all
definitions_on left rest c found more all h e f =
    ap (λ (m : List DefText). definitions_in rest ++ m) f
    ∙ (sym (append_assoc (definitions_in rest) (texts_of c) (reverse found))
    ∙ (ap (λ (m : List DefText). m ++ reverse found) (sym (definitions_last rest c))
    ∙ (ap (λ (m : List Clause). definitions_in m ++ reverse found) (sym e) ∙ h)))

-- one more of the others
pub others_on : (left rest : List Clause) (c : Clause) (found more all : List Clause) → others_in left ++ reverse found ≡ all → left ≡ rest ++ c ∷ [] → reverse more ≡ others_of c ++ reverse found → others_in rest ++ reverse more ≡ all
others_on left rest c found more all h e f =
    ap (λ (m : List Clause). others_in rest ++ m) f
    ∙ (sym (append_assoc (others_in rest) (others_of c) (reverse found))
    ∙ (ap (λ (m : List Clause). m ++ reverse found) (sym (others_last rest c))
    ∙ (ap (λ (m : List Clause). others_in m ++ reverse found) (sym e) ∙ h)))

-- a clause that is no DEFINITIONS has no definitions
pub no_texts : (c : Clause) → is_definitions c ≡ false → texts_of c ≡ []
no_texts (clause.Definitions at ds) e = absurd (cc)
no_texts (clause.Sets at x) e = refl
no_texts (clause.Constants at x) e = refl
no_texts (clause.AbstractConstants at x) e = refl
no_texts (clause.Properties at x) e = refl
no_texts (clause.Variables at x) e = refl
no_texts (clause.ConcreteVariables at x) e = refl
no_texts (clause.Invariant at x) e = refl
no_texts (clause.Assertions at x) e = refl
no_texts (clause.Initialisation at x) e = refl
no_texts (clause.Operations at x) e = refl

-- ---- assembling

-- one more assertion
pub predicates_on : (left rest : List Formula) (e : Formula) (done more all : List Pred) → done ++ map predicate (reverse left) ≡ all → left ≡ rest ++ e ∷ [] → more ≡ done ++ predicate e ∷ [] → more ++ map predicate (reverse rest) ≡ all
predicates_on left rest e done more all h k f =
    ap (λ (ps : List Pred). ps ++ map predicate (reverse rest)) f
    ∙ (append_assoc done (predicate e ∷ []) (map predicate (reverse rest))
    ∙ (ap (λ (es : List Formula). done ++ map predicate es) (sym (turned_last rest e))
    ∙ (ap (λ (es : List Formula). done ++ map predicate (reverse es)) (sym k) ∙ h)))

-- one more formula
pub formulas_on : (left rest found more all : List Formula) (e : Formula) → left ++ reverse found ≡ all → left ≡ rest ++ e ∷ [] → more ≡ found ++ e ∷ [] → rest ++ reverse more ≡ all
formulas_on left rest found more all e h k f =
    ap (λ (m : List Formula). rest ++ reverse m) f
    ∙ (ap (λ (m : List Formula). rest ++ m) (turned_last found e)
    ∙ (sym (append_assoc rest (e ∷ []) (reverse found))
    ∙ (ap (λ (m : List Formula). m ++ reverse found) (sym k) ∙ h)))

-- one more clause of the machine
pub assembled_on : (left rest : List Clause) (c : Clause) (m n all : MachineText) → fold with_clause m (reverse left) ≡ all → left ≡ rest ++ c ∷ [] → n ≡ with_clause m c → fold with_clause n (reverse rest) ≡ all
assembled_on left rest c m n all h e f =
    ap (λ (n : MachineText). fold with_clause n (reverse rest)) f
    ∙ (ap (fold with_clause m) (sym (turned_last rest c))
    ∙ (ap (λ (cs : List Clause). fold with_clause m (reverse cs)) (sym e) ∙ h))
