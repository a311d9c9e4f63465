-- What the steps of one hold come to.
use Rattle.std.proofs.Common.{◌≡◌, ℕ, ◌+◌, ◌%◌, ◌^◌, ◌<◌, ◌≤◌, List, [], ◌∷◌, ◌++◌, length, get_or, refl, sym, ap, ◌∙◌, subst, arith, Some, length-append}
use mathlib.Core.Option.{none as no_value}
use Rattle.atomic_table.specs.Table.{step, Allows}
use Rattle.std.specs.Borrow.{MutBor}
use Rattle.std.specs.Fn.{Once, FnOnceReturnsAtMut}
use Rattle.turn_lock.specs.declared.view.Stage.TheVariants.{Idle, Holding}
use Rattle.turn_lock.specs.Views.{view_of, view_at, known_of}
use Rattle.turn_lock.specs.Histories.{Begins}
use Rattle.turn_lock.specs.Passes.{Known}
use Rattle.turn_lock.specs.Rule.{IsRuled}
use Rattle.turn_lock.specs.Steps.{Seated, DrawsTicket, AddsEntries, PassesTurn}
use Rattle.turn_lock.specs.Jobs.{Keeps, Ran}
use Rattle.turn_lock.specs.Holding.{Came, Worked}
use Rattle.turn_lock.proofs.Beginnings.{begins_more}
use Rattle.turn_lock.proofs.Steps.{adds, leaves}

module _ {V E T R F : Type 0} (fits : T → V → Type 0) (history_of : V → List E) (tag : T) (g : Once F (MutBor V × Unit {0}) (R × (MutBor V × Unit {0}))) (job : F) where
  -- the pass has the value in hand, on which the job ran
  pub record Did (m n : Seated V E T) (r : R) (k : ℕ) : Type 0 where
    pub before : V
    pub after : V
    pub ticket : ℕ
    pub entries : List E
    pub is : n ≡ (view_of m.0.shares m.0.own (history_of before) (Holding ticket) m.0.tag, (0, after) ∷ [])
    pub fitted : fits tag before
    pub begins : Begins m.0.seen (history_of before)
    pub ran : FnOnceReturnsAtMut g job before r after
    pub fits_still : fits tag after
    pub grown : history_of after ≡ history_of before ++ entries
    pub few : length entries ≤ 1
    pub many : k ≡ length entries
    pub counted : length (history_of after) < 2 ^ 64

  pub did : (m0 m1 m2 m3 : Seated V E T) (ticket k : ℕ) (r : R) → Keeps (fits tag) history_of g m0.0.seen job → DrawsTicket (step 0 0 0 0 no_value) m0 ticket m1 → Came fits history_of tag m1 m2
      → (before after : V) × (m2.1 ≡ (0, before) ∷ []) × (m3 ≡ (m2.0, (0, after) ∷ [])) × Worked history_of g job before after r k → Did m0 m3 r k
  did m0 m1 m2 m3 ticket k r keeps drawn c w =
      let before : V = w.0 in let after : V = w.1 in
      let same : c.value ≡ before = ap (λ (l : List (ℕ × V)). (get_or l 0 (0, c.value)).1) (sym c.held ∙ w.2) in
      let seen : Begins m0.0.seen (history_of before) = subst (λ (x : V). Begins m0.0.seen (history_of x)) same (subst (λ (x : Seated V E T). Begins x.0.seen (history_of c.value)) drawn.2 c.begins) in
      let good : fits tag before = subst (fits tag) same c.fitted in
      let kept = (keeps before good seen).leaves r after w.4.ran in
      let now : m2.0 ≡ view_of m0.0.shares m0.0.own (history_of before) (Holding c.ticket) m0.0.tag =
      c.view_is ∙ (ap (λ (x : Seated V E T). view_of x.0.shares x.0.own (history_of c.value) (Holding c.ticket) x.0.tag) drawn.2 ∙ ap (λ (x : V). view_of m0.0.shares m0.0.own (history_of x) (Holding c.ticket) m0.0.tag) same) in record {
        before = before;
        after = after;
        ticket = c.ticket;
        entries = kept.1.0;
        is = w.3 ∙ (λ i. (now i, (0, after) ∷ []));
        fitted = good;
        begins = seen;
        ran = w.4.ran;
        fits_still = kept.0;
        grown = kept.1.1;
        few = kept.1.2;
        many = omega (arith, w.4.count, ap length kept.1.1, length-append (history_of before) kept.1.0);
        counted = w.4.counted;
      }

  pub adding : (slots id k : ℕ) (m n : Seated V E T) (r : R) → 0 < m.0.shares → Did m n r k → Allows (IsRuled fits history_of tag) slots id n 2 (λ x. (x + k) % 2 ^ 64) (AddsEntries history_of (step slots 2 k 0 no_value) n)
  adding slots id k m n r has d = subst (λ (x : Seated V E T). Allows (IsRuled fits history_of tag) slots id x 2 (λ y. (y + k) % 2 ^ 64) (AddsEntries history_of (step slots 2 k 0 no_value) x)) (sym d.is)
      (adds fits history_of tag slots id d.ticket k (view_of m.0.shares m.0.own (history_of d.before) (Holding d.ticket) m.0.tag) d.after d.entries refl has d.grown d.many d.counted)

  after_adding : (k found : ℕ) (m n o : Seated V E T) (r : R) (d : Did m n r k) → AddsEntries history_of (step 0 0 k 0 no_value) n found o → o ≡ (view_of m.0.shares (m.0.own + k) (history_of d.after) (Holding d.ticket) m.0.tag, (0, d.after) ∷ [])
  after_adding k found m n o r d told = (told d.after (ap (λ (x : Seated V E T). x.1) d.is)).0 ∙ ap (λ (x : Seated V E T). (view_of x.0.shares (x.0.own + k) (history_of d.after) x.0.stage x.0.tag, x.1)) d.is

  pub own_below : (k found : ℕ) (m n o : Seated V E T) (r : R) (d : Did m n r k) → AddsEntries history_of (step 0 0 k 0 no_value) n found o → m.0.own + k < 2 ^ 64
  own_below k found m n o r d told = omega (arith, (told d.after (ap (λ (x : Seated V E T). x.1) d.is)).1, ap (λ (x : Seated V E T). x.0.own) d.is, d.counted)

  pub leaving : (slots id k found : ℕ) (m n o : Seated V E T) (r : R) → slots ≡ 1 → 0 < m.0.shares → m.0.tag ≡ Some tag → (d : Did m n r k) → AddsEntries history_of (step 0 0 k 0 no_value) n found o
      → Allows (IsRuled fits history_of tag) slots id o 1 (λ x. (x + 1) % 2 ^ 64) (λ found' x. PassesTurn (step slots 1 1 0 no_value) o found' x)
  leaving slots id k found m n o r single has known d told =
      subst (λ (x : Seated V E T). Allows (IsRuled fits history_of tag) slots id x 1 (λ y. (y + 1) % 2 ^ 64) (λ found' z. PassesTurn (step slots 1 1 0 no_value) x found' z)) (sym (after_adding k found m n o r d told))
      (leaves fits history_of tag slots id d.ticket (view_of m.0.shares (m.0.own + k) (history_of d.after) (Holding d.ticket) m.0.tag) d.after single refl has refl
      (λ other is. subst (λ (x : T). fits x d.after) (same_some tag other (sym known ∙ is)) d.fits_still))
    where
      same_some : (a b : T) → Some a ≡ Some b → a ≡ b
      same_some a b e = cc

  pub ended : (k found found' : ℕ) (m n o p : Seated V E T) (r : R) → (d : Did m n r k) → AddsEntries history_of (step 0 0 k 0 no_value) n found o → PassesTurn (step 0 0 0 0 no_value) o found' p
      → p ≡ (view_of m.0.shares (m.0.own + k) (history_of d.after) Idle m.0.tag, [])
  ended k found found' m n o p r d told gone = gone ∙ ap (λ (x : Seated V E T). (view_at x.0 Idle, [])) (after_adding k found m n o r d told)

  pub rans : (k found found' : ℕ) (m n o p : Seated V E T) (r : R) → Did m n r k → AddsEntries history_of (step 0 0 k 0 no_value) n found o → PassesTurn (step 0 0 0 0 no_value) o found' p
      → Ran (fits tag) history_of g job r (known_of m.0) (known_of p.0)
  rans k found found' m n o p r d told gone = let last = ended k found found' m n o p r d told gone in record {
    lent = d.before;
    left = d.after;
    lent_fits = d.fitted;
    lent_begins = d.begins;
    answers = d.ran;
    left_fits = d.fits_still;
    left_grows = (d.entries, d.grown, d.few);
    sees = ap (λ (x : Seated V E T). x.0.seen) last;
    counts = omega (arith, ap (λ (x : Seated V E T). x.0.own) last, ap length d.grown, length-append (history_of d.before) d.entries, d.many);
    same_shares = ap (λ (x : Seated V E T). x.0.shares) last;
  }

  -- what was seen before begins what is seen afterwards
  pub ran_begins : (r : R) (before after : Known E) → Ran (fits tag) history_of g job r before after → Begins before.seen after.seen
  ran_begins r before after ran = subst (Begins before.seen) (sym (ran.sees ∙ ran.left_grows.1)) (begins_more before.seen (history_of ran.lent) ran.left_grows.0 ran.lent_begins)
