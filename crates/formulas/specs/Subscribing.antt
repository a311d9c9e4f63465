-- How subscriptions come and go.
use Rattle.std.specs.Prelude.{◌≡◌, ℕ, ◌+◌, Bool, true, false, not, nat_le, List, [], ◌∷◌, ◌++◌, length, filter, Result, Ok, Err, ◌==◌}
use Rattle.std.specs.List.{list_any}
use Rattle.engine_face.specs.declared.keys.FormulaKey.{FormulaKey}
use Rattle.formulas.specs.declared.subs.Sub.{Sub}
use Rattle.formulas.specs.declared.subs.SubFault.{SubFault}
use Rattle.formulas.specs.declared.subs.SubFault.TheVariants.{SubsFull, NoSub, Memory}
use Rattle.formulas.specs.Subscriptions.{Subscriptions}

-- numbers start at 1
abbrev pub nothing_subscribed : Subscriptions
nothing_subscribed = record { list = []; next = 1 }

-- there may be 64
abbrev pub is_full : Subscriptions → Bool
is_full subs = nat_le 64 (length subs.list)

abbrev pub has_number : ℕ → Sub → Bool
has_number number sub = sub.number == number

-- one more, under the next number
abbrev pub subscribed : FormulaKey → Subscriptions → Subscriptions
subscribed key subs = record { list = subs.list ++ record { number = subs.next; key = key } ∷ []; next = subs.next + 1 }

-- without the one of this number, which isn't used again
abbrev pub unsubscribed : ℕ → Subscriptions → Subscriptions
unsubscribed number subs = record { list = filter (λ sub. not (has_number number sub)) subs.list; next = subs.next }

-- a formula was added, or all is as it was
abbrev pub Subscribes : Subscriptions → FormulaKey → Subscriptions → Result ℕ SubFault → Type 0
Subscribes old key new (Ok number) = (is_full old ≡ false) × (number ≡ old.next) × (new ≡ subscribed key old)
Subscribes old key new (Err SubsFull) = (is_full old ≡ true) × (new ≡ old)
Subscribes old key new (Err NoSub) = ⊥
Subscribes old key new (Err Memory) = (is_full old ≡ false) × (new ≡ old)

-- a subscription was taken out, or all is as it was
abbrev pub Unsubscribes : Subscriptions → ℕ → Subscriptions → Result (Unit {0}) SubFault → Type 0
Unsubscribes old number new (Ok done) = (list_any (has_number number) old.list ≡ true) × (new ≡ unsubscribed number old)
Unsubscribes old number new (Err NoSub) = (list_any (has_number number) old.list ≡ false) × (new ≡ old)
Unsubscribes old number new (Err SubsFull) = ⊥
Unsubscribes old number new (Err Memory) = ⊥
