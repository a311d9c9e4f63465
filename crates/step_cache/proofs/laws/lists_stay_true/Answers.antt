use Rattle.engine_face.specs.Answers.{IsStepList}
use Rattle.engine_face.specs.Keys.{same_bytes, bytes_same}
use Rattle.engine_face.specs.StoreLaws.{true_looked, true_put, true_without, true_found}
use Rattle.step_cache.proofs.laws.lists_stay_true.Goals as goal

pub returns-clause-looked : goal.returns-clause-looked
returns-clause-looked c = λ m unpack. true_looked same_bytes bytes_same (IsStepList m unpack)

pub returns-clause-put : goal.returns-clause-put
returns-clause-put c = λ m unpack. true_put same_bytes bytes_same (IsStepList m unpack)

pub returns-clause-evicted : goal.returns-clause-evicted
returns-clause-evicted c = λ m unpack. true_without same_bytes bytes_same (IsStepList m unpack)

pub returns-clause-found : goal.returns-clause-found
returns-clause-found c = λ m unpack. true_found same_bytes bytes_same (IsStepList m unpack)
