-- What the tests of the code decide: of one value, and of a batch.
use Prim.Native.Nat.{ℕ, suc, ◌+◌, ◌-◌, ◌≤◌, ◌<◌, ◌^◌}
use mathlib.Core.Path.{◌≡◌, refl, sym, ap, ap₂, ◌∙◌}
use mathlib.Core.Bool.{Bool, true, false, cond, ◌||◌}
use mathlib.Core.List.{List, [], ◌∷◌, foldl}
use native.Mathlib.Decide.{dec_lt}
use native.Mathlib.Numerals.{add-one}
use native.Mathlib.Omega.{arith}
use lib.IntN.{ℤ, pos, nat_abs, sub_ℕ}
use lib.ListN.{length, get_or, take, drop, drop_of_length-le}
use lib.Seq.{drop-cons}
use Rattle.std.specs.Prelude.{Option, None, Some}
use Rattle.std.proofs.lemmas.List.{take_rest, length-drop, get_or-drop}
use Rattle.refusal.specs.Outcome.{value, refused, after_call}
use Rattle.refusal.proofs.Outcomes.{clash, passes, same_value}
use Rattle.numbers.specs.Range.{outside}
use Rattle.numbers.proofs.Between.{inside_pos, outside_pos, natural_within}
use Rattle.numbers.proofs.Bools.{or_no}
use Rattle.numbers.proofs.Integers.{sub_neg, sub_pos, wider}
use Rattle.transport.specs.Wraps.{wrap, half, last_value, last_position, lead_to, reached, position_at}
use Rattle.transport.specs.Answers.{bad_clock, not_followed, follow_answer, clock_after, if_refused, so_far, one_more, follow_all_answer}
use Rattle.transport.specs.Batches.{number_within, going_on}
use Rattle.transport.proofs.OneStep.{lead, ahead_is}
use Rattle.transport.specs.declared.Position.{Position}

module _ (clock : Option ℤ) (heard : ℤ) where
  -- a refused value and an accepted one
  pub refused_is : not_followed clock heard ≡ true → (follow_answer clock heard ≡ refused 14) × (clock_after clock heard ≡ clock)
  unfolding follow_answer clock_after
  refused_is h = (rw h refl, rw h refl)

  pub accepted_is :
      not_followed clock heard ≡ false →
      (follow_answer clock heard ≡ value (position_at (reached clock heard))) × (clock_after clock heard ≡ Some (reached clock heard))
  unfolding follow_answer clock_after
  accepted_is h = (rw h refl, rw h refl)

  -- where a value is accepted, the position that is reached lies in the range
  pub reached_inside : not_followed clock heard ≡ false → outside (pos 0) last_position (reached clock heard) ≡ false
  reached_inside h =
      let behind = (or_no (outside (pos 0) last_value heard) _ h).1 in
      (or_no (bad_clock clock) (outside (pos 0) last_position (reached clock heard)) behind).1

  -- a value that the clock does not have
  pub no_value : outside (pos 0) last_value heard ≡ true → not_followed clock heard ≡ true
  no_value h = ap (λ t. t || (bad_clock clock || outside (pos 0) last_position (reached clock heard))) h

  -- one that it has
  pub some_value :
      outside (pos 0) last_value heard ≡ false → bad_clock clock ≡ false → not_followed clock heard ≡ outside (pos 0) last_position (reached clock heard)
  some_value h k = ap₂ (λ t u. t || (u || outside (pos 0) last_position (reached clock heard))) h k

-- a position handed in that is outside refuses every value
pub bad_clock_lem : (position heard : ℤ) → outside (pos 0) last_position position ≡ true → not_followed (Some position) heard ≡ true
bad_clock_lem position heard h = go (outside (pos 0) last_value heard)
  where
    go : (t : Bool) → (t || (outside (pos 0) last_position position || outside (pos 0) last_position (reached (Some position) heard))) ≡ true
    go true = refl
    go false = ap (λ t. t || outside (pos 0) last_position (reached (Some position) heard)) h

-- every value is a position too, and the first one of all is taken
pub value_inside : (heard : ℤ) → outside (pos 0) last_value heard ≡ false → outside (pos 0) last_position heard ≡ false
value_inside heard = wider (pos 0) last_value (pos 0) last_position heard refl refl

pub first_value : (heard : ℤ) → outside (pos 0) last_value heard ≡ false → not_followed None heard ≡ false
first_value heard h = some_value None heard h refl ∙ value_inside heard h

-- a number that lies `half` ahead of a position in the range, or of none
in_range_lem : (a : ℕ) → half ≤ a → a - half ≤ 2 ^ 53 → outside (pos 0) last_position (sub_ℕ a half) ≡ false
in_range_lem a h k = ap (outside (pos 0) last_position) (sub_pos a half h) ∙ inside_pos 0 (2 ^ 53) (a - half) (omega arith) k

too_far : (a : ℕ) → half ≤ a → 2 ^ 53 < a - half → outside (pos 0) last_position (sub_ℕ a half) ≡ true
too_far a h k = ap (outside (pos 0) last_position) (sub_pos a half h) ∙ outside_pos 0 (2 ^ 53) (a - half) (λ l m. omega arith)

below_zero : (a : ℕ) → a < half → outside (pos 0) last_position (sub_ℕ a half) ≡ true
below_zero a l = ap (outside (pos 0) last_position) (sub_neg a half l)

not_landed : (a : ℕ) → (half ≤ a → a - half ≤ 2 ^ 53 → ⊥) → outside (pos 0) last_position (sub_ℕ a half) ≡ true
not_landed a none = go (dec_lt a half) (dec_lt (2 ^ 53) (a - half))
  where
    go : Dec (a < half) → Dec (2 ^ 53 < a - half) → outside (pos 0) last_position (sub_ℕ a half) ≡ true
    go (yes l) d = below_zero a l
    go (no l) (yes k) = too_far a (omega arith) k
    go (no l) (no k) = absurd (none (omega arith) (omega arith))

-- what the test of a number hands on
pub number_refused : (last z : ℤ) {n : ℕ} → refused n ≡ number_within last z → (outside (pos 0) last z ≡ true) × (n ≡ 14)
number_refused last z = go (outside (pos 0) last z)
  where
    go : (t : Bool) {n : ℕ} → refused n ≡ cond t (refused 14) (value (nat_abs z)) → (t ≡ true) × (n ≡ 14)
    go true e = (refl, cc)
    go false e = clash (cc)

pub number_taken : (last z : ℤ) {n : ℕ} → value n ≡ number_within last z → (outside (pos 0) last z ≡ false) × (pos n ≡ z)
number_taken last z e =
    let t = passes (outside (pos 0) last z) 14 (value (nat_abs z)) e in
    (t.0, ap pos (same_value t.1) ∙ sym (natural_within 0 last z t.0).is)

-- a value that the clock does not have, and one that it has, by its number
pub value_refused : (clock : Option ℤ) (heard : ℤ) {n : ℕ} → refused n ≡ number_within last_value heard → refused n ≡ follow_answer clock heard
value_refused clock heard e =
    let t = number_refused last_value heard e in
    ap refused t.1 ∙ sym (refused_is clock heard (no_value clock heard t.0)).0

pub value_heard : (clock : Option ℤ) (heard : ℤ) {v : ℕ} → value v ≡ number_within last_value heard → follow_answer clock (pos v) ≡ follow_answer clock heard
value_heard clock heard e = ap (follow_answer clock) (number_taken last_value heard e).1

-- a number below the wrap is a value, and the first one of all is its own position
value_is : (v : ℕ) → v < wrap → outside (pos 0) last_value (pos v) ≡ false
value_is v l = inside_pos 0 (wrap - 1) v (omega arith) (omega arith)

pub first_taken : (v : ℕ) → v < wrap → value (position_at (pos v)) ≡ follow_answer None (pos v)
first_taken v l = sym (accepted_is None (pos v) (first_value (pos v) (value_is v l))).0

-- a position handed in that is outside
pub position_refused : (position heard : ℤ) {n : ℕ} → refused n ≡ number_within last_position position → refused n ≡ follow_answer (Some position) heard
position_refused position heard e =
    let t = number_refused last_position position e in
    ap refused t.1 ∙ sym (refused_is (Some position) heard (bad_clock_lem position heard t.0)).0

-- a value v that leads from the position p in the range to `a`, less `half`
module _ (p v a : ℕ) (here : p ≤ 2 ^ 53) (small : v < wrap) (e : a ≡ p + lead_to (pos p) (pos v)) where
  inside : not_followed (Some (pos p)) (pos v) ≡ outside (pos 0) last_position (sub_ℕ a half)
  inside =
      some_value (Some (pos p)) (pos v) (value_is v small) (inside_pos 0 (2 ^ 53) p (omega arith) here)
      ∙ ap (outside (pos 0) last_position) (ahead_is p v a e)

  pub lands : half ≤ a → a - half ≤ 2 ^ 53 → value (position_at (pos (a - half))) ≡ follow_answer (Some (pos p)) (pos v)
  lands low high =
      ap (λ z. value (position_at z)) (sym (ahead_is p v a e ∙ sub_pos a half low))
      ∙ sym (accepted_is (Some (pos p)) (pos v) (inside ∙ in_range_lem a low high)).0

  pub lands_outside : (half ≤ a → a - half ≤ 2 ^ 53 → ⊥) → refused 14 ≡ follow_answer (Some (pos p)) (pos v)
  lands_outside none = sym (refused_is (Some (pos p)) (pos v) (inside ∙ not_landed a none)).0

-- heard again from its own position, it leads there
pub own_value : (v : ℕ) → v < wrap → value (position_at (pos v)) ≡ follow_answer (Some (pos v)) (pos v)
own_value v small =
    let led : lead_to (pos v) (pos v) ≡ half = lead (pos v) (pos v) ∙ omega arith in
    let e : v + half ≡ v + lead_to (pos v) (pos v) = ap (λ n. v + n) (sym led) in
    let back : v + half - half ≡ v = omega arith in
    ap (λ n. value (position_at (pos n))) (sym back) ∙ lands v v (v + half) (omega arith) small e (omega arith) (omega arith)

-- so the first value of all leads from itself to where it leads from nothing
pub heard_again :
    (heard : ℤ) (t v : ℕ) → v < wrap → value v ≡ number_within last_value heard → value (position_at (pos t)) ≡ follow_answer None (pos v) →
    value (position_at (pos t)) ≡ follow_answer (Some (pos t)) heard
heard_again heard t v small e first =
    let same : t ≡ v = ap (λ p. nat_abs p.ticks) (same_value (first ∙ sym (first_taken v small))) in
    rw same (own_value v small ∙ value_heard (Some (pos v)) heard e)

-- a value of a batch, by what it is answered
pub one_taken : (clock : Option ℤ) (heard : ℤ) (n : ℕ) {p : Position} → value p ≡ follow_answer clock heard → one_more (so_far clock n) heard ≡ so_far (Some p.ticks) n
unfolding clock_after
one_taken clock heard n {p} e =
    let same : n + 0 ≡ n = omega arith in
    ap (λ o. so_far (after_call o (λ p. Some p.ticks) clock) (n + if_refused o)) (sym e) ∙ ap (so_far (Some p.ticks)) same

pub one_passed_over : (clock : Option ℤ) (heard : ℤ) (n : ℕ) {k : ℕ} → refused k ≡ follow_answer clock heard → one_more (so_far clock n) heard ≡ so_far clock (n + 1)
unfolding clock_after
one_passed_over clock heard n e = ap (λ o. so_far (after_call o (λ p. Some p.ticks) clock) (n + if_refused o)) (sym e)

-- at place k behind `start`
pub behind :
    (values : List ℤ) (start k : ℕ) → let rest = take (length values - start) (drop start values) in
    k < length rest → (start + k < length values) × (get_or rest k (pos 0) ≡ get_or values (start + k) (pos 0))
behind values start k = rw (take_rest values start) (λ l. (omega (arith, length-drop start values), get_or-drop start values k (pos 0)))

-- at place i of a batch
module _ (values : List ℤ) (i : ℕ) where
  pub again :
      (clock : Option ℤ) (n : ℕ) {clock' : Option ℤ} {n' : ℕ} → i < length values → one_more (so_far clock n) (get_or values i (pos 0)) ≡ so_far clock' n' →
      going_on clock' n' (i + 1) values ≡ going_on clock n i values
  unfolding going_on
  again clock n {clock'} {n'} l e =
      ap (λ j. foldl one_more (so_far clock' n') (drop j values)) (add-one i) ∙ ap (λ b. foldl one_more b (drop (suc i) values)) (sym e)
      ∙ ap (foldl one_more (so_far clock n)) (sym (drop-cons values i (pos 0) l))

  pub at_end : (clock : Option ℤ) (n : ℕ) → length values ≤ i → going_on clock n i values ≡ so_far clock n
  unfolding going_on
  at_end clock n h = ap (foldl one_more (so_far clock n)) (drop_of_length-le values h)

-- the whole batch
pub from_start : (clock : Option ℤ) (values : List ℤ) → going_on clock 0 0 values ≡ follow_all_answer clock values
unfolding going_on follow_all_answer
from_start clock values = refl

-- with a position handed in that is outside, every value is passed over
pub none_followed :
    (position : ℤ) → outside (pos 0) last_position position ≡ true → (values : List ℤ) →
    follow_all_answer (Some position) values ≡ so_far (Some position) (length values)
unfolding follow_all_answer
none_followed position h values = go values 0 ∙ ap (so_far (Some position)) (omega arith)
  where
    go : (values : List ℤ) (n : ℕ) → foldl one_more (so_far (Some position) n) values ≡ so_far (Some position) (n + length values)
    go [] n = ap (so_far (Some position)) (omega arith)
    go (heard ∷ values) n =
        ap (λ b. foldl one_more b values) (one_passed_over (Some position) heard n (sym (refused_is (Some position) heard (bad_clock_lem position heard h)).0)) ∙ go values (n + 1)
        ∙ ap (so_far (Some position)) (omega arith)
