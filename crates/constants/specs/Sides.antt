-- For proofs and private contracts only: a side of the difference, and the gaps of the residues modulo d.
use Rattle.std.specs.Prelude.{◌≡◌, ℕ, ◌+◌, ◌-◌, ◌*◌, ◌/◌, ◌%◌, ◌^◌, ◌≤◌, ◌<◌}
use Rattle.constants.specs.declared.trial.Trial.{Trial}
use Rattle.constants.specs.declared.search.Lacking.{Lacking}
use Rattle.constants.specs.declared.search.Lacking.TheVariants.{Line, Stairs}
use Rattle.constants.specs.declared.search.Side.{Side}
use Rattle.constants.specs.Stairs.{stair}
use Rattle.constants.specs.Trial.{exact}

-- where the staircase and the line are at the residue x
abbrev pub climb : Side → (x : ℕ) → ℕ
climb s x = s.power * stair s.d s.a s.rest x

abbrev pub run : Side → (x : ℕ) → ℕ
run s x = s.m * x

-- what one of the two lacks, by where both are
abbrev pub missing : Lacking → (need have climb run : ℕ) → ℕ
missing Line need have climb run = need + climb - (have + run)
missing Stairs need have climb run = need + run - (have + climb)

-- what the residue x lacks for a difference on the side
unfoldable pub gap : Side → (x : ℕ) → ℕ
gap s x = missing s.lacking s.need s.have (climb s x) (run s x)

-- some residue below `end` has a gap of at most `bound`
abbrev pub SomeGap : Side → (end bound : ℕ) → Type 0
SomeGap s end bound = (x : ℕ) × (x < end) × (gap s x ≤ bound)

-- the periods before n close the gap of its residue
abbrev pub Closed : Side → (n : ℕ) → Type 0
Closed s n = gap s (n % s.d) ≤ s.gain * (n / s.d)

-- what the quotients at r lack for a difference of constants on trial, in units of the device's sum
abbrev pub lack : Trial → Lacking → (r : ℕ) → ℕ
lack q Line r = (exact q r + q.t + 1) * 2 ^ q.k - (q.m * r + q.c)
lack q Stairs r = q.m * r + q.c + q.t * 2 ^ q.k + 1 - exact q r * 2 ^ q.k

-- and what they gain on a side when n gains d
abbrev pub gain_of : Trial → Lacking → ℕ
gain_of q Line = q.m * q.d - q.a * 2 ^ q.k
gain_of q Stairs = q.a * 2 ^ q.k - q.m * q.d

-- the side on which the line or the staircase lacks something, of constants on trial
pub record IsSide (q : Trial) (l : Lacking) (s : Side) : Type 0 where
  pub d_is : s.d ≡ q.d
  pub gain_is : s.gain ≡ gain_of q l
  pub gap_is : (r : ℕ) → gap s r ≡ lack q l r
