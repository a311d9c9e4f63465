-- Laws of the texts of replies: nothing but the numbers of the shown states matters, and a reply that is told of other
-- states has the text under their numbers.
use Rattle.std.proofs.Common.{◌≡◌, ℕ, ◌+◌, List, [], ◌∷◌, ◌++◌, length, map, flat_map, suc, codes, refl, ap, ◌∙◌}
use Rattle.std.specs.List.{AllByRecursion}
use Rattle.std.specs.Fmt.{decimal}
use Rattle.b_values.specs.declared.types.Face.{Face}
use Rattle.engine_face.specs.declared.answers.Step.{Step}
use Rattle.engine_face.specs.declared.answers.OpList.{OpList}
use Rattle.session_words.specs.declared.replies.Reply.{Reply}
use Rattle.session_words.specs.declared.replies.Reply.TheVariants.{Silent, Done, Info, Lists, Added, Moved, Trace, State, Value as Valued, Subscribed, Subscriptions, Invariant, Saved, Migrated, Replayed, VisbItems, Walked, Refused}
use Rattle.session_words.specs.Texts.{line, end_text}
use Rattle.session_words.specs.Replies.{op_name, results_text, params_text, position_line, step_line, step_lines, list_lines, state_lines, sub_lines, reply_lines, reply_text, dests, states_in}
use Rattle.session_words.specs.Retelling.{retold_step, retold_steps, retold_list, retold_lists, retold}

module _ {D : Type 0} (face : Face) (f g : D → ℕ) where
  -- both number these states alike
  abbrev pub NumberAlike : List D → Type 0
  NumberAlike states = AllByRecursion (λ d. f d ≡ g d) states

  front_same : (xs ys : List D) → NumberAlike (xs ++ ys) → NumberAlike xs
  front_same [] ys all = tt
  front_same (x ∷ xs) ys (e, all) = (e, front_same xs ys all)

  behind_same : (xs ys : List D) → NumberAlike (xs ++ ys) → NumberAlike ys
  behind_same [] ys all = all
  behind_same (x ∷ xs) ys (e, all) = behind_same xs ys all

  step_same : (step : Step D) → f step.dest ≡ g step.dest → step_line face f step ≡ step_line face g step
  step_same step e = ap (λ n. results_text face step.results ++ op_name face step.op ++ params_text face step.params ++ line (codes " : " ++ decimal n)) e

  steps_same : (k : ℕ) (steps : List (Step D)) → NumberAlike (dests steps) → step_lines face f k steps ≡ step_lines face g k steps
  steps_same k [] all = refl
  steps_same k (step ∷ steps) (e, all) =
      ap (λ t. decimal k ++ codes " " ++ t ++ step_lines face f (k + 1) steps) (step_same step e)
      ∙ ap (λ t. decimal k ++ codes " " ++ step_line face g step ++ t) (steps_same (k + 1) steps all)

  lists_same : (k : ℕ) (lists : List (OpList D)) → NumberAlike (flat_map (λ ops. dests ops.steps) lists) → list_lines face f k lists ≡ list_lines face g k lists
  lists_same k [] all = refl
  lists_same k (list ∷ lists) all =
      ap (λ t. t ++ line (op_name face list.op ++ end_text list.end) ++ list_lines face f (k + length list.steps) lists)
      (steps_same k list.steps (front_same (dests list.steps) (flat_map (λ ops. dests ops.steps) lists) all))
      ∙ ap (λ t. step_lines face g k list.steps ++ line (op_name face list.op ++ end_text list.end) ++ t)
      (lists_same (k + length list.steps) lists (behind_same (dests list.steps) (flat_map (λ ops. dests ops.steps) lists) all))

  walk_same : (steps : List (Step D)) → NumberAlike (dests steps) → flat_map (step_line face f) steps ≡ flat_map (step_line face g) steps
  walk_same [] all = refl
  walk_same (step ∷ steps) (e, all) =
      ap (λ t. t ++ flat_map (step_line face f) steps) (step_same step e) ∙ ap (λ t. step_line face g step ++ t) (walk_same steps all)

  lines_same : (reply : Reply D) → NumberAlike (states_in reply) → reply_lines face f reply ≡ reply_lines face g reply
  lines_same Silent all = refl
  lines_same Done all = refl
  lines_same (Info state position len) (e, all) = ap (λ n. line (codes "machine " ++ face.name) ++ line (codes "state " ++ decimal n) ++ position_line position len) e
  lines_same (Lists list) all = lists_same 1 list.lists all
  lines_same (Added step subs) (e, all) = ap (λ t. t ++ sub_lines face f subs) (step_same step e)
  lines_same (Moved state subs) (e, all) = ap (λ n. line (codes "state " ++ decimal n) ++ sub_lines face f subs) e
  lines_same (Trace position steps) all = ap (λ t. position_line position (length steps) ++ t) (steps_same 1 steps all)
  lines_same (State state values) (e, all) = ap (λ n. line (codes "state " ++ decimal n) ++ state_lines face f values) e
  lines_same (Valued v bounded) all = refl
  lines_same (Subscribed sub) all = refl
  lines_same (Subscriptions subs) all = refl
  lines_same (Invariant holds bounded) all = refl
  lines_same (Saved len) all = refl
  lines_same (Migrated len) all = refl
  lines_same (Replayed steps subs) all = ap (λ t. position_line (length steps) (length steps) ++ t ++ sub_lines face f subs) (steps_same 1 steps all)
  lines_same (VisbItems items) all = refl
  lines_same (Walked steps subs) all = ap (λ t. t ++ sub_lines face f subs) (walk_same steps all)
  lines_same (Refused refusal) all = refl

  -- replies keep their texts where the shown states keep their numbers
  pub text_same : (reply : Reply D) → NumberAlike (states_in reply) → reply_text face f reply ≡ reply_text face g reply
  text_same Silent all = refl
  text_same Done all = ap (λ t. t ++ line (codes "ok")) (lines_same Done all)
  text_same (Info state position len) all = ap (λ t. t ++ line (codes "ok")) (lines_same (Info state position len) all)
  text_same (Lists list) all = ap (λ t. t ++ line (codes "ok")) (lines_same (Lists list) all)
  text_same (Added step subs) all = ap (λ t. t ++ line (codes "ok")) (lines_same (Added step subs) all)
  text_same (Moved state subs) all = ap (λ t. t ++ line (codes "ok")) (lines_same (Moved state subs) all)
  text_same (Trace position steps) all = ap (λ t. t ++ line (codes "ok")) (lines_same (Trace position steps) all)
  text_same (State state values) all = ap (λ t. t ++ line (codes "ok")) (lines_same (State state values) all)
  text_same (Valued v bounded) all = ap (λ t. t ++ line (codes "ok")) (lines_same (Valued v bounded) all)
  text_same (Subscribed sub) all = ap (λ t. t ++ line (codes "ok")) (lines_same (Subscribed sub) all)
  text_same (Subscriptions subs) all = ap (λ t. t ++ line (codes "ok")) (lines_same (Subscriptions subs) all)
  text_same (Invariant holds bounded) all = ap (λ t. t ++ line (codes "ok")) (lines_same (Invariant holds bounded) all)
  text_same (Saved len) all = ap (λ t. t ++ line (codes "ok")) (lines_same (Saved len) all)
  text_same (Migrated len) all = ap (λ t. t ++ line (codes "ok")) (lines_same (Migrated len) all)
  text_same (Replayed steps subs) all = ap (λ t. t ++ line (codes "ok")) (lines_same (Replayed steps subs) all)
  text_same (VisbItems items) all = ap (λ t. t ++ line (codes "ok")) (lines_same (VisbItems items) all)
  text_same (Walked steps subs) all = ap (λ t. t ++ line (codes "ok")) (lines_same (Walked steps subs) all)
  text_same (Refused refusal) all = refl

module _ {D E : Type 0} (face : Face) (told : D → E) (number : E → ℕ) where
  steps_retold : (k : ℕ) (steps : List (Step D)) → step_lines face number k (retold_steps told steps) ≡ step_lines face (λ d. number (told d)) k steps
  steps_retold k [] = refl
  steps_retold k (step ∷ steps) = ap (λ t. decimal k ++ codes " " ++ step_line face (λ d. number (told d)) step ++ t) (steps_retold (k + 1) steps)

  length_retold : (steps : List (Step D)) → length (retold_steps told steps) ≡ length steps
  length_retold [] = refl
  length_retold (step ∷ steps) = ap (λ n. suc n) (length_retold steps)

  lists_retold : (k : ℕ) (lists : List (OpList D)) → list_lines face number k (retold_lists told lists) ≡ list_lines face (λ d. number (told d)) k lists
  lists_retold k [] = refl
  lists_retold k (list ∷ lists) =
      ap (λ t. t ++ line (op_name face list.op ++ end_text list.end) ++ list_lines face number (k + length (retold_steps told list.steps)) (retold_lists told lists)) (steps_retold k list.steps)
      ∙ ap (λ n. step_lines face (λ d. number (told d)) k list.steps ++ line (op_name face list.op ++ end_text list.end) ++ list_lines face number (k + n) (retold_lists told lists)) (length_retold list.steps)
      ∙ ap (λ t. step_lines face (λ d. number (told d)) k list.steps ++ line (op_name face list.op ++ end_text list.end) ++ t) (lists_retold (k + length list.steps) lists)

  walk_retold : (steps : List (Step D)) → flat_map (step_line face number) (retold_steps told steps) ≡ flat_map (step_line face (λ d. number (told d))) steps
  walk_retold [] = refl
  walk_retold (step ∷ steps) = ap (λ t. step_line face (λ d. number (told d)) step ++ t) (walk_retold steps)

  trace_retold : (position : ℕ) (steps : List (Step D)) → position_line position (length (retold_steps told steps)) ++ step_lines face number 1 (retold_steps told steps) ≡ position_line position (length steps) ++ step_lines face (λ d. number (told d)) 1 steps
  trace_retold position steps =
      ap (λ n. position_line position n ++ step_lines face number 1 (retold_steps told steps)) (length_retold steps)
      ∙ ap (λ t. position_line position (length steps) ++ t) (steps_retold 1 steps)

  lines_retold : (reply : Reply D) → reply_lines face number (retold told reply) ≡ reply_lines face (λ d. number (told d)) reply
  lines_retold Silent = refl
  lines_retold Done = refl
  lines_retold (Info state position len) = refl
  lines_retold (Lists list) = lists_retold 1 list.lists
  lines_retold (Added step subs) = refl
  lines_retold (Moved state subs) = refl
  lines_retold (Trace position steps) = trace_retold position steps
  lines_retold (State state values) = refl
  lines_retold (Valued v bounded) = refl
  lines_retold (Subscribed sub) = refl
  lines_retold (Subscriptions subs) = refl
  lines_retold (Invariant holds bounded) = refl
  lines_retold (Saved len) = refl
  lines_retold (Migrated len) = refl
  lines_retold (Replayed steps subs) = ap (λ n. position_line n (length (retold_steps told steps)) ++ step_lines face number 1 (retold_steps told steps) ++ sub_lines face number subs) (length_retold steps)
      ∙ ap (λ t. t ++ sub_lines face number subs) (trace_retold (length steps) steps)
  lines_retold (VisbItems items) = refl
  lines_retold (Walked steps subs) = ap (λ t. t ++ sub_lines face number subs) (walk_retold steps)
  lines_retold (Refused refusal) = refl

  -- the text of a reply under other states is its text under their numbers
  pub text_retold : (reply : Reply D) → reply_text face number (retold told reply) ≡ reply_text face (λ d. number (told d)) reply
  text_retold Silent = refl
  text_retold Done = ap (λ t. t ++ line (codes "ok")) (lines_retold Done)
  text_retold (Info state position len) = ap (λ t. t ++ line (codes "ok")) (lines_retold (Info state position len))
  text_retold (Lists list) = ap (λ t. t ++ line (codes "ok")) (lines_retold (Lists list))
  text_retold (Added step subs) = ap (λ t. t ++ line (codes "ok")) (lines_retold (Added step subs))
  text_retold (Moved state subs) = ap (λ t. t ++ line (codes "ok")) (lines_retold (Moved state subs))
  text_retold (Trace position steps) = ap (λ t. t ++ line (codes "ok")) (lines_retold (Trace position steps))
  text_retold (State state values) = ap (λ t. t ++ line (codes "ok")) (lines_retold (State state values))
  text_retold (Valued v bounded) = ap (λ t. t ++ line (codes "ok")) (lines_retold (Valued v bounded))
  text_retold (Subscribed sub) = ap (λ t. t ++ line (codes "ok")) (lines_retold (Subscribed sub))
  text_retold (Subscriptions subs) = ap (λ t. t ++ line (codes "ok")) (lines_retold (Subscriptions subs))
  text_retold (Invariant holds bounded) = ap (λ t. t ++ line (codes "ok")) (lines_retold (Invariant holds bounded))
  text_retold (Saved len) = ap (λ t. t ++ line (codes "ok")) (lines_retold (Saved len))
  text_retold (Migrated len) = ap (λ t. t ++ line (codes "ok")) (lines_retold (Migrated len))
  text_retold (Replayed steps subs) = ap (λ t. t ++ line (codes "ok")) (lines_retold (Replayed steps subs))
  text_retold (VisbItems items) = ap (λ t. t ++ line (codes "ok")) (lines_retold (VisbItems items))
  text_retold (Walked steps subs) = ap (λ t. t ++ line (codes "ok")) (lines_retold (Walked steps subs))
  text_retold (Refused refusal) = refl
