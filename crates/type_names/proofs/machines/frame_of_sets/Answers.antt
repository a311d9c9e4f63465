use Rattle.std.proofs.Common.{◌≡◌, ◌++◌, ℕ, List, length, ap, ◌∙◌, subst}
use Rattle.std.specs.Prelude.{IfOk}
use Rattle.b_ast.specs.declared.machine.SetDecl.{SetDecl}
use Rattle.type_demands.specs.Scopes.{meaning_in}
use Rattle.set_elements.specs.declared.conjuncts.Sizing.{Sizing}
use Rattle.set_elements.specs.Sizes.{size_in, sizings_of}
use Rattle.type_names.specs.declared.listing.Named.{Named}
use Rattle.type_names.specs.Names.{scope_named, in_order}
use Rattle.type_names.specs.Machines.{set_names, machine_names, listed_elements, deferred_elements}
use Rattle.type_names.proofs.machines.frame_of_sets.Goals as goal

-- what is listed
abbrev all_listed : List SetDecl → List (List ℕ) → List Sizing → ℕ → List Named
all_listed ds hiding ss d = in_order 0 (set_names ds) ++ listed_elements (length ds) ds ++ deferred_elements hiding (size_in ss d) (length ds) ds

pub returns : goal.returns
returns c =
    let ds = c.as_slice-sets.result.now in
    let m = c.args.m.now in
    let listed : c.deref.result.now ≡ all_listed c.as_slice-sets.result.now c.args.hiding.now.names c.in_ok-sizes.sizes.sizings c.in_ok-sizes.sizes.other =
    c.deref.ensures.value ∙ c.in_ok-push_deferred.ensures
    ∙ ap (λ l. l ++ deferred_elements c.args.hiding.now.names (size_in c.in_ok-sizes.sizes.sizings c.in_ok-sizes.sizes.other) (length ds) ds)
    (c.in_ok-push_listed.ensures ∙ ap (λ l. l ++ listed_elements (length ds) ds) (c.in_ok-push_sets.ensures ∙ ap (λ l. l ++ in_order 0 (set_names ds)) c.new-names.ensures.items)) in
    let same : all_listed c.as_slice-sets.result.now c.args.hiding.now.names c.in_ok-sizes.sizes.sizings c.in_ok-sizes.sizes.other ≡ all_listed c.args.m.now.sets (machine_names c.args.m.now) (sizings_of c.args.m.now.properties) c.args.default =
    ap (λ s. all_listed s c.args.hiding.now.names c.in_ok-sizes.sizes.sizings c.in_ok-sizes.sizes.other) c.as_slice-sets.ensures
    ∙ ap (λ h. all_listed m.sets h c.in_ok-sizes.sizes.sizings c.in_ok-sizes.sizes.other) c.requires.declared
    ∙ ap (λ l. all_listed m.sets (machine_names m) l c.in_ok-sizes.sizes.other) c.in_ok-sizes.ensures.sizings
    ∙ ap (all_listed m.sets (machine_names m) (sizings_of m.properties)) c.in_ok-sizes.ensures.other in
    subst (λ l. IfOk c.frame_named.result (λ frame. (x : List ℕ) → meaning_in frame.meanings x ≡ scope_named l x)) (listed ∙ same) c.frame_named.ensures
