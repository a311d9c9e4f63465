-- Sizes of parts together.
use Rattle.std.proofs.Common.{◌≡◌, ℕ, ◌+◌, ◌*◌, Option, Some, None, refl, sym, ap, ◌∙◌, arith}
use Rattle.b_summaries.specs.declared.summary.Size.{Size}
use Rattle.b_summaries.specs.Sizes.{counted, deeper_of, raised, nothing, plus, times, under, together}
use Rattle.b_summaries.proofs.Amounts.{times-sum, sum-times, times-times}

-- sizes with equal parts are equal
pub size_by : (m n : ℕ) (d e : Option ℕ) → m ≡ n → d ≡ e → ◌≡◌ {A = Size} (record { nodes = m; depth = d }) (record { nodes = n; depth = e })
size_by m n d e h i = cc

-- ---- depths

pub deeper_assoc : (a b c : Option ℕ) → deeper_of (deeper_of a b) c ≡ deeper_of a (deeper_of b c)
deeper_assoc None b c = refl
deeper_assoc (Some a) None c = refl
deeper_assoc (Some a) (Some b) None = refl
deeper_assoc (Some a) (Some b) (Some c) = ap Some (omega arith)

pub deeper_comm : (a b : Option ℕ) → deeper_of a b ≡ deeper_of b a
deeper_comm None None = refl
deeper_comm None (Some b) = refl
deeper_comm (Some a) None = refl
deeper_comm (Some a) (Some b) = ap Some (omega arith)

pub deeper_none : (a : Option ℕ) → deeper_of a None ≡ a
deeper_none None = refl
deeper_none (Some a) = refl

-- the greater of two depths is raised as both are
pub raised-deeper : (n a b : Option ℕ) → raised n (deeper_of a b) ≡ deeper_of (raised n a) (raised n b)
raised-deeper None a b = refl
raised-deeper (Some n) None b = refl
raised-deeper (Some n) (Some a) None = refl
raised-deeper (Some n) (Some a) (Some b) = ap Some (omega arith)

-- by the greater of two numbers of brackets
pub deeper-raised : (m n a : Option ℕ) → raised (deeper_of m n) a ≡ deeper_of (raised m a) (raised n a)
deeper-raised None n a = refl
deeper-raised (Some m) None None = refl
deeper-raised (Some m) None (Some a) = refl
deeper-raised (Some m) (Some n) None = refl
deeper-raised (Some m) (Some n) (Some a) = ap Some (omega arith)

-- raised twice
pub raised-raised : (m n a : Option ℕ) → raised (raised m n) a ≡ raised m (raised n a)
raised-raised None n a = refl
raised-raised (Some m) None a = refl
raised-raised (Some m) (Some n) None = refl
raised-raised (Some m) (Some n) (Some a) = ap Some (omega arith)

-- in any order
pub raised_exchange : (m n a : Option ℕ) → raised m (raised n a) ≡ raised n (raised m a)
raised_exchange None None a = refl
raised_exchange None (Some n) a = refl
raised_exchange (Some m) None None = refl
raised_exchange (Some m) None (Some a) = refl
raised_exchange (Some m) (Some n) None = refl
raised_exchange (Some m) (Some n) (Some a) = ap Some (omega arith)

-- ---- sizes

module _ (a b c d : Size) where
  plus_assoc : plus (plus a b) c ≡ plus a (plus b c)
  plus_assoc = size_by _ _ _ _ (omega arith) (deeper_assoc a.depth b.depth c.depth)

  plus_comm : plus a b ≡ plus b a
  plus_comm = size_by _ _ _ _ (omega arith) (deeper_comm a.depth b.depth)

  plus_twice : plus nothing (plus a b) ≡ plus a b
  plus_twice = size_by _ _ _ _ (omega arith) refl

  plus_last : plus (plus a b) nothing ≡ plus a b
  plus_last = size_by _ _ _ _ (omega arith) (deeper_none (deeper_of a.depth b.depth))

  -- parts so many times
  times-plus : (n : ℕ) (o : Option ℕ) → times n o (plus a b) ≡ plus (times n o a) (times n o b)
  times-plus n o = size_by _ _ _ _ (times-sum 1000001 n a.nodes b.nodes) (raised-deeper o a.depth b.depth)

  under-plus : (r : ℕ) → under r (plus a b) ≡ plus (under r a) (under r b)
  under-plus r = size_by _ _ _ _ refl (raised-deeper (Some r) a.depth b.depth)

-- so many times and so many more
pub plus-times : (m n : ℕ) (o p : Option ℕ) (z : Size) → times (counted (m + n)) (deeper_of o p) z ≡ plus (times m o z) (times n p z)
plus-times m n o p z = size_by _ _ _ _ (sum-times 1000001 m n z.nodes) (deeper-raised o p z.depth)

-- so many times so many times
pub times-twice : (m n : ℕ) (o p : Option ℕ) (z : Size) → times (counted (m * n)) (raised o p) z ≡ times m o (times n p z)
times-twice m n o p z = size_by _ _ _ _ (times-times 1000001 m n z.nodes) (raised-raised o p z.depth)

-- under brackets so many times
pub under-times : (r n : ℕ) (o : Option ℕ) (z : Size) → under r (times n o z) ≡ times n o (under r z)
under-times r n o z = size_by _ _ _ _ refl (raised_exchange (Some r) o z.depth)

-- ---- sizes that may be missing

pub together_assoc : (a b c : Option Size) → together (together a b) c ≡ together a (together b c)
together_assoc None b c = refl
together_assoc (Some a) None c = refl
together_assoc (Some a) (Some b) None = refl
together_assoc (Some a) (Some b) (Some c) = ap Some (plus_assoc a b c c)

pub together_comm : (a b : Option Size) → together a b ≡ together b a
together_comm None None = refl
together_comm None (Some b) = refl
together_comm (Some a) None = refl
together_comm (Some a) (Some b) = ap Some (plus_comm a b a a)

pub together_exchange : (a b c d : Option Size) → together (together a b) (together c d) ≡ together (together a c) (together b d)
together_exchange a b c d =
    together_assoc a b (together c d)
    ∙ (ap (together a) (sym (together_assoc b c d) ∙ (ap (λ o. together o d) (together_comm b c) ∙ together_assoc c b d))
    ∙ sym (together_assoc a c (together b d)))

-- nothing changes nothing
pub together_nothing : (a b : Option Size) → together (together a b) (Some nothing) ≡ together a b
together_nothing None b = refl
together_nothing (Some a) None = refl
together_nothing (Some a) (Some b) = ap Some (plus_last a b a a)

pub nothing_together : (a b : Option Size) → together (Some nothing) (together a b) ≡ together a b
nothing_together None b = refl
nothing_together (Some a) None = refl
nothing_together (Some a) (Some b) = ap Some (plus_twice a b a a)

-- parts under brackets
pub under_plus : (r : ℕ) (a b : Size) → under r (plus a b) ≡ plus (under r a) (under r b)
under_plus r a b = under-plus a b a a r

pub times_plus : (n : ℕ) (o : Option ℕ) (a b : Size) → times n o (plus a b) ≡ plus (times n o a) (times n o b)
times_plus n o a b = times-plus a b a a n o
