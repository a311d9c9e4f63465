use Rattle.std.proofs.Common.{◌≡◌, drop}
use Rattle.b_use_forms.specs.Forms.{all_meet}
use Rattle.b_use_forms.proofs.uses.all_meet.Given as goal

-- what is left decides
abbrev pub invariant-loop-share : goal.invariant-loop-share
invariant-loop-share l = all_meet (drop l.share-index l.shares) l.left ≡ all_meet l.shares l.arguments
