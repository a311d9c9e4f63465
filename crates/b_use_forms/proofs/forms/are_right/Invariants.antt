use Rattle.std.proofs.Common.{◌≡◌, drop}
use Rattle.std.specs.List.{list_all}
use Rattle.b_use_forms.specs.Forms.{is_right}
use Rattle.b_use_forms.proofs.forms.are_right.Given as goal

-- what is left decides
abbrev pub invariant-loop-form : goal.invariant-loop-form
invariant-loop-form l = list_all is_right (drop l.form-index l.forms) ≡ list_all is_right l.forms
