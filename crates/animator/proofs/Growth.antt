-- A session stays a private animator's while the host's list of states grows.
use Rattle.std.proofs.Common.{◌≡◌, ◌∙◌, sym, ap, subst, ℕ, List, ◌++◌, take, Some}
use Rattle.b_values.specs.declared.values.State.{State}
use Rattle.host_io.specs.Outside.{ToldDesk}
use Rattle.animator.specs.Meaning.{Meaning}
use Rattle.animator.specs.Names.{Extends, Covers, text_of}
use Rattle.animator.specs.Private.{IsAnimated, Shown, replies}
use Rattle.animator.proofs.Places.{covers_more, text_more}

pub animated_more : (m : Meaning) (names longer : List State) (told : ToldDesk) (shown : Shown) → Extends names longer → IsAnimated m names told shown → IsAnimated m longer told shown
animated_more m names longer told shown extends animated =
    let parts = replies m shown.marks told.source in
    let same : text_of longer parts ≡ text_of names parts = ap (λ (n : List State). text_of n parts) extends.1 ∙ text_more names extends.0 parts animated.named in
    record {
      count = animated.count;
      spared = animated.spared;
      named = subst (λ (n : List State). Covers n parts) (sym extends.1) (covers_more names extends.0 parts animated.named);
      text = λ other. animated.text other ∙ ap (λ (t : List ℕ). Some (told.sink ++ t)) (sym same);
      front = λ is. let front = animated.front is in (front.0, front.1 ∙ ap (λ (t : List ℕ). Some (told.sink ++ take front.0 t)) (sym same));
      whole = animated.whole;
      within = animated.within;
      limit = animated.limit;
      complete = animated.complete;
    }
