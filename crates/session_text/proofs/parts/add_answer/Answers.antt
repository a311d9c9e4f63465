use Rattle.std.proofs.Common.{◌≡◌, ◌++◌, OnOk, sym, subst}
use Rattle.b_values.specs.Texts.{text_of}
use Rattle.engine_face.specs.declared.answers.ValueAnswer.{ValueAnswer}
use Rattle.session_words.specs.Texts.{answer_by}
use Rattle.session_text.proofs.parts.add_answer.Goals as goal

pub returns-in-NotInitialised-clause-added : goal.returns-in-NotInitialised-clause-added
returns-in-NotInitialised-clause-added c =
    let P : ValueAnswer → Type 0 = λ a. OnOk c.add.result (c.add.new.self ≡ c.args.out.now ++ answer_by (text_of c.args.face.now.sets) a) in
    subst P (sym c.in-NotInitialised.is) c.add.ensures.added
