-- The choices of a seed.
use Rattle.std.specs.Prelude.{ℕ, ◌%◌}
use Rattle.rand_core.specs.Pcg32Seed.{pcg32_seed}
use Rattle.rand_pcg.specs.Lcg.{Lcg}
use Rattle.rand_pcg.specs.Pcg.{pcg32, pcg32_of_seed}

-- the generator that a seed makes: its 16 bytes of state and increment are those of seed_from_u64
abbrev pub walk_of : ℕ → Lcg
walk_of seed = pcg32_of_seed (pcg32_seed 16 seed)

-- the generator's next word modulo n, and the generator after it
abbrev pub chosen : ℕ → Lcg → ℕ × Lcg
chosen n g = ((pcg32 g).0 % n, (pcg32 g).1)
