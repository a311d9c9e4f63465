-- A plan and the answer to the question that comes first: an answer that is true of the world leaves the end of the command as it is, and
-- takes off exactly the question that was asked.
use Rattle.std.proofs.Common.{◌≡◌, ap, refl, ℕ, suc, ◌<◌, arith, Bool, List, [], ◌∷◌, ◌++◌, Option}
use Rattle.b_values.specs.declared.values.State.{State}
use Rattle.engine_face.specs.declared.answers.StepList.{StepList}
use Rattle.engine_face.specs.declared.answers.ValueAnswer.{ValueAnswer}
use Rattle.engine_face.specs.declared.answers.Found.{Found}
use Rattle.engine_face.specs.declared.answers.Confirmed.{Confirmed}
use Rattle.animator.specs.Plans.{Plan, Done, Lists, ValueIn, Find, Confirm, Number, Load, Store, Show, World, run, asks, shows, Ask, AskLists, AskValue, AskFind, AskConfirm, AskLoad, AskStore}

-- an answer to a question
pub data Given : Type 0 where
  TheLists : StepList State → Given
  TheValue : ValueAnswer → Given
  TheFound : Found State → Given
  TheConfirmed : Confirmed State → Given
  TheState : Option State → Given
  TheDocument : Option (List ℕ) → Given
  Stored : Bool → Given
  -- the states have their numbers
  Named : Given

-- what is left of a plan after an answer to its first question; after another the plan itself
abbrev pub fed : Plan → Given → Plan
fed (Lists s k) (TheLists lists) = k lists
fed (ValueIn s key k) (TheValue value) = k value
fed (Find s op preds k) (TheFound found) = k found
fed (Confirm s saved k) (TheConfirmed step) = k step
fed (Number n k) (TheState state) = k state
fed (Load call name k) (TheDocument bytes) = k bytes
fed (Store call name bytes k) (Stored did) = k did
fed (Show states plan) Named = plan
fed plan _ = plan

-- the answer is the world's to the first question
abbrev pub Tells : World → Plan → Given → Type 0
Tells w (Lists s k) (TheLists lists) = lists ≡ w.meaning.expand s
Tells w (ValueIn s key k) (TheValue value) = value ≡ w.meaning.value s key
Tells w (Find s op preds k) (TheFound found) = found ≡ w.meaning.find s op preds
Tells w (Confirm s saved k) (TheConfirmed step) = step ≡ w.meaning.confirm s saved
Tells w (Number n k) (TheState state) = state ≡ w.number n
Tells w (Load call name k) (TheDocument bytes) = bytes ≡ w.load call name
Tells w (Store call name bytes k) (Stored did) = did ≡ w.store call name bytes
Tells w (Show states plan) Named = Unit {0}
Tells w _ _ = ⊥

-- the first question, where it is one of an engine or a cabinet
abbrev pub question : Plan → List Ask
question (Lists s k) = AskLists s ∷ []
question (ValueIn s key k) = AskValue s key ∷ []
question (Find s op preds k) = AskFind s op preds ∷ []
question (Confirm s saved k) = AskConfirm s saved ∷ []
question (Load call name k) = AskLoad call name ∷ []
question (Store call name bytes k) = AskStore call name bytes ∷ []
question plan = []

-- the states that are shown first, where that comes first
abbrev pub first_shown : Plan → List State
first_shown (Show states plan) = states
first_shown plan = []

pub run_fed : (w : World) (p : Plan) (g : Given) → Tells w p g → run w (fed p g) ≡ run w p
run_fed w (Lists s k) (TheLists lists) told = ap (λ x. run w (k x)) told
run_fed w (ValueIn s key k) (TheValue value) told = ap (λ x. run w (k x)) told
run_fed w (Find s op preds k) (TheFound found) told = ap (λ x. run w (k x)) told
run_fed w (Confirm s saved k) (TheConfirmed step) told = ap (λ x. run w (k x)) told
run_fed w (Number n k) (TheState state) told = ap (λ x. run w (k x)) told
run_fed w (Load call name k) (TheDocument bytes) told = ap (λ x. run w (k x)) told
run_fed w (Store call name bytes k) (Stored did) told = ap (λ x. run w (k x)) told
run_fed w (Show states plan) Named told = refl
run_fed w _ _ told = absurd told

pub asks_fed : (w : World) (p : Plan) (g : Given) → Tells w p g → question p ++ asks w (fed p g) ≡ asks w p
asks_fed w (Lists s k) (TheLists lists) told = ap (λ x. AskLists s ∷ asks w (k x)) told
asks_fed w (ValueIn s key k) (TheValue value) told = ap (λ x. AskValue s key ∷ asks w (k x)) told
asks_fed w (Find s op preds k) (TheFound found) told = ap (λ x. AskFind s op preds ∷ asks w (k x)) told
asks_fed w (Confirm s saved k) (TheConfirmed step) told = ap (λ x. AskConfirm s saved ∷ asks w (k x)) told
asks_fed w (Number n k) (TheState state) told = ap (λ x. asks w (k x)) told
asks_fed w (Load call name k) (TheDocument bytes) told = ap (λ x. AskLoad call name ∷ asks w (k x)) told
asks_fed w (Store call name bytes k) (Stored did) told = ap (λ x. AskStore call name bytes ∷ asks w (k x)) told
asks_fed w (Show states plan) Named told = refl
asks_fed w _ _ told = absurd told

pub shows_fed : (w : World) (p : Plan) (g : Given) → Tells w p g → first_shown p ++ shows w (fed p g) ≡ shows w p
shows_fed w (Lists s k) (TheLists lists) told = ap (λ x. shows w (k x)) told
shows_fed w (ValueIn s key k) (TheValue value) told = ap (λ x. shows w (k x)) told
shows_fed w (Find s op preds k) (TheFound found) told = ap (λ x. shows w (k x)) told
shows_fed w (Confirm s saved k) (TheConfirmed step) told = ap (λ x. shows w (k x)) told
shows_fed w (Number n k) (TheState state) told = ap (λ x. shows w (k x)) told
shows_fed w (Load call name k) (TheDocument bytes) told = ap (λ x. shows w (k x)) told
shows_fed w (Store call name bytes k) (Stored did) told = ap (λ x. shows w (k x)) told
shows_fed w (Show states plan) Named told = refl
shows_fed w _ _ told = absurd told

-- how many answers the rest of a command takes, under the world: each command ends
abbrev pub height : World → Plan → ℕ
height w (Done answered) = 0
height w (Lists s k) = suc (height w (k (w.meaning.expand s)))
height w (ValueIn s key k) = suc (height w (k (w.meaning.value s key)))
height w (Find s op preds k) = suc (height w (k (w.meaning.find s op preds)))
height w (Confirm s saved k) = suc (height w (k (w.meaning.confirm s saved)))
height w (Number n k) = suc (height w (k (w.number n)))
height w (Load call name k) = suc (height w (k (w.load call name)))
height w (Store call name bytes k) = suc (height w (k (w.store call name bytes)))
height w (Show states plan) = suc (height w plan)

below : (m n : ℕ) → m ≡ n → m < suc n
below m n is = omega (arith, is)

pub height_fed : (w : World) (p : Plan) (g : Given) → Tells w p g → height w (fed p g) < height w p
height_fed w (Lists s k) (TheLists lists) told = below _ _ (ap (λ x. height w (k x)) told)
height_fed w (ValueIn s key k) (TheValue value) told = below _ _ (ap (λ x. height w (k x)) told)
height_fed w (Find s op preds k) (TheFound found) told = below _ _ (ap (λ x. height w (k x)) told)
height_fed w (Confirm s saved k) (TheConfirmed step) told = below _ _ (ap (λ x. height w (k x)) told)
height_fed w (Number n k) (TheState state) told = below _ _ (ap (λ x. height w (k x)) told)
height_fed w (Load call name k) (TheDocument bytes) told = below _ _ (ap (λ x. height w (k x)) told)
height_fed w (Store call name bytes k) (Stored did) told = below _ _ (ap (λ x. height w (k x)) told)
height_fed w (Show states plan) Named told = below _ _ refl
height_fed w _ _ told = absurd told
