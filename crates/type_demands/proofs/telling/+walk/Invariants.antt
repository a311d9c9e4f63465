use Rattle.std.proofs.Common.{◌≡◌, ◌++◌, ◌+◌, map, drop}
use Rattle.type_demands.specs.Scopes.{scope_of}
use Rattle.type_demands.specs.Demands.{said, link_said, after_said, steps_parts, steps_whole, steps_demands, each_parts, each_demands}
use Rattle.type_demands.proofs.telling.+walk.Given as goal

-- what is told, and what is left
abbrev pub invariant-walk_links-loop-link : goal.invariant-walk_links-loop-link
invariant-walk_links-loop-link l = record {
  told : l.out.items ++ steps_demands (scope_of l.fn.frames.items) l.left l.next (map link_said (drop l.link-index l.links)) ≡ l.fn.out.items ++ steps_demands (scope_of l.fn.frames.items) l.fn.first l.fn.next (map link_said l.links);
  whole : steps_whole l.left l.next (map link_said (drop l.link-index l.links)) ≡ steps_whole l.fn.first l.fn.next (map link_said l.links);
  parts : l.next + steps_parts (map link_said (drop l.link-index l.links)) ≡ l.fn.next + steps_parts (map link_said l.links);
  frames : l.frames.items ≡ l.fn.frames.items;
}

abbrev pub invariant-walk_forms-loop-form : goal.invariant-walk_forms-loop-form
invariant-walk_forms-loop-form l = record {
  told : l.out.items ++ steps_demands (scope_of l.fn.frames.items) l.left l.next (map after_said (drop l.form-index l.forms)) ≡ l.fn.out.items ++ steps_demands (scope_of l.fn.frames.items) l.fn.first l.fn.next (map after_said l.forms);
  whole : steps_whole l.left l.next (map after_said (drop l.form-index l.forms)) ≡ steps_whole l.fn.first l.fn.next (map after_said l.forms);
  parts : l.next + steps_parts (map after_said (drop l.form-index l.forms)) ≡ l.fn.next + steps_parts (map after_said l.forms);
  frames : l.frames.items ≡ l.fn.frames.items;
}

abbrev pub invariant-walk_elements-loop-element : goal.invariant-walk_elements-loop-element
invariant-walk_elements-loop-element l = record {
  told : l.out.items ++ each_demands l.fn.rule (scope_of l.fn.frames.items) l.fn.whole l.next (map said (drop l.element-index l.elements)) ≡ l.fn.out.items ++ each_demands l.fn.rule (scope_of l.fn.frames.items) l.fn.whole l.fn.next (map said l.elements);
  parts : l.next + each_parts (map said (drop l.element-index l.elements)) ≡ l.fn.next + each_parts (map said l.elements);
  frames : l.frames.items ≡ l.fn.frames.items;
}
