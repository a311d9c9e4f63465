use Rattle.engine_face.specs.StoreLaws.{true_looked, true_put, true_without, true_found}
use Rattle.value_cache.specs.Keys.{same_key, keys_same}
use Rattle.value_cache.specs.Truth.{IsTrueValue}
use Rattle.value_cache.proofs.laws.values_stay_true.Goals as goal

pub returns-clause-looked : goal.returns-clause-looked
returns-clause-looked c = λ m unpack. true_looked same_key keys_same (IsTrueValue m unpack)

pub returns-clause-put : goal.returns-clause-put
returns-clause-put c = λ m unpack. true_put same_key keys_same (IsTrueValue m unpack)

pub returns-clause-evicted : goal.returns-clause-evicted
returns-clause-evicted c = λ m unpack. true_without same_key keys_same (IsTrueValue m unpack)

pub returns-clause-found : goal.returns-clause-found
returns-clause-found c = λ m unpack. true_found same_key keys_same (IsTrueValue m unpack)
