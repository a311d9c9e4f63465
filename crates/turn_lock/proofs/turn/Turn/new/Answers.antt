use Rattle.std.proofs.Common.{◌≡◌, [], ◌∷◌, ◌++◌, List, Some, sym, ap, subst, ◌∙◌}
use Rattle.atomic_table.specs.Table.{opening}
use Rattle.turn_lock.specs.declared.view.Stage.TheVariants.{Idle}
use Rattle.turn_lock.specs.Views.{view_of}
use Rattle.turn_lock.specs.Passes.{all_shares}
use Rattle.turn_lock.specs.Rule.{IsRuled}
use Rattle.turn_lock.proofs.Steps.{opens}
use Rattle.turn_lock.proofs.turn.Turn.new.Goals as goal

pub new-requires : goal.new-requires
new-requires g c =
    let k = g.V.Kept in
    let tag = k.tag c.of-opening.result.value in
    let items : c.push_reserved.new.self.items ≡ c.args.value ∷ [] = c.push_reserved.ensures.items ∙ ap (λ (l : List g.row.V.Denot). l ++ c.args.value ∷ []) c.in_ok-slots.ensures.items in
    subst (λ (l : List g.row.V.Denot). IsRuled k.fits k.history tag (opening (0 ∷ 0 ∷ 0 ∷ []) l (view_of all_shares 0 [] Idle (Some tag)))) (sym items)
    (opens k.fits k.history tag c.args.value (subst (λ (v : g.row.V.Denot). k.fits (k.tag v) c.args.value) (sym c.of-opening.ensures) c.requires.fits) c.requires.empty)
