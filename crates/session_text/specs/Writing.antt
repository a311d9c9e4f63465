-- What a writer of replies answers.
use Rattle.std.specs.Prelude.{◌≡◌, ℕ, ◌<◌, List, length, Result, Ok, Err}
use Rattle.std.specs.declared.alloc.AllocError.{AllocError}
use Rattle.b_values.specs.declared.types.Face.{Face}
use Rattle.session_words.specs.declared.replies.Reply.{Reply}
use Rattle.session_words.specs.declared.replies.Numbered.{Numbered}
use Rattle.session_words.specs.Replies.{reply_text}

-- the number of a state that was shown
abbrev pub its_number : Numbered → ℕ
its_number state = state.number

abbrev pub text_of_reply : Face → Reply Numbered → List ℕ
text_of_reply face reply = reply_text face its_number reply

-- the text, or want of memory where it has more than 64 bytes
abbrev pub IsWritten : List ℕ → Result (List ℕ) AllocError → Type 0
IsWritten text (Ok written) = written ≡ text
IsWritten text (Err none) = 64 < length text
