-- The laws of the follower: its answers by the step, the true positions given back, refused values, batches, milliseconds.
use Prim.Native.Nat.{ℕ, ◌+◌, ◌*◌, ◌≤◌}
use mathlib.Core.Path.{◌≡◌, refl, sym, ap, ap₂, ◌∙◌}
use mathlib.Core.Bool.{Bool, true, false, cond, ◌||◌}
use mathlib.Core.Logic.{◌↔◌, ◌⊎◌, inl, inr, ⊎_elim}
use mathlib.Core.List.{List, [], ◌∷◌, ◌++◌, map, foldl, foldl-append}
use native.Mathlib.Nat.{mod-eq_of_lt}
use native.Mathlib.Omega.{arith}
use lib.Dec.{lit<}
use lib.IntN.{ℤ, pos, ◌+ℤ◌, ◌-ℤ◌}
use lib.ListN.{length}
use lib.Signed.{lt_z}
use Rattle.std.specs.Prelude.{Option, None, Some}
use Rattle.refusal.specs.Outcome.{Outcome, value, refused, refused_at, after_call}
use Rattle.refusal.proofs.Outcomes.{clash, passes, same_value}
use Rattle.numbers.specs.Floor.{floor_remainder}
use Rattle.numbers.specs.Range.{outside}
use Rattle.numbers.proofs.Bools.{or_yes}
use Rattle.numbers.proofs.Between.{inside_pos, natural_within}
use Rattle.numbers.proofs.Floor.{remainder_below}
use Rattle.numbers.proofs.Integers.{add_difference}
use Rattle.numbers.proofs.Quotients.{quotient_monotone}
use Rattle.transport.specs.Wraps.{wrap, last_value, last_position, Step, reached, milliseconds_of, position_at}
use Rattle.transport.specs.Answers.{bad_clock, not_followed, follow_answer, clock_after, if_refused, so_far, one_more, follow_all_answer}
use Rattle.transport.specs.Runs.{answers_to, Onward, RunFrom, done, more, shown_at}
use Rattle.transport.specs.declared.Position.{Position}
use Rattle.transport.proofs.OneStep.{step_is_one}
use Rattle.transport.proofs.Answered.{refused_is, accepted_is, reached_inside, some_value, value_inside, first_value}

-- ---- the clock

-- it wraps after 26 h 30 min 43.717 s
pub wraps_after : milliseconds_of (pos wrap) ≡ pos (((26 * 60 + 30) * 60 + 43) * 1000 + 717)
wraps_after = refl

-- ---- one value

-- where a position in the range and a value of the clock are handed in, any step that fits is the one that is taken
pub by_any_step :
    (position heard s : ℤ) → outside (pos 0) last_position position ≡ false → outside (pos 0) last_value heard ≡ false → Step position heard s →
    follow_answer (Some position) heard ≡ cond (outside (pos 0) last_position (position +ℤ s)) (refused 14) (value (position_at (position +ℤ s)))
unfolding follow_answer
by_any_step position heard s h k w =
    let e : reached (Some position) heard ≡ position +ℤ s = ap (λ s. position +ℤ s) (sym (step_is_one position heard s w)) in
    ap₂ (λ t z. cond t (refused 14) (value (position_at z))) (some_value (Some position) heard k h ∙ ap (outside (pos 0) last_position) e) e

-- the first value of all is taken as it is
pub first_as_it_is :
    (heard : ℤ) → outside (pos 0) last_value heard ≡ false →
    (follow_answer None heard ≡ value (position_at heard)) × (clock_after None heard ≡ Some heard)
first_as_it_is heard h = accepted_is None heard (first_value heard h)

-- 14 exactly if the value is outside its range, or the position handed in is, or the one that is reached
module _ (clock : Option ℤ) (heard : ℤ) where
  not_followed_lem : follow_answer clock heard ≡ refused 14 → not_followed clock heard ≡ true
  not_followed_lem = go (not_followed clock heard) refl
    where
      go : (t : Bool) → not_followed clock heard ≡ t → follow_answer clock heard ≡ refused 14 → t ≡ true
      go true p e = refl
      go false p e = let v = (accepted_is clock heard p).0 in clash (cc)

  abbrev outside_reached : Bool
  outside_reached = outside (pos 0) last_position (reached clock heard)

  pub fourteen_exactly :
      (follow_answer clock heard ≡ refused 14) ↔ ((outside (pos 0) last_value heard ≡ true) ⊎ ((bad_clock clock ≡ true) ⊎ (outside (pos 0) last_position (reached clock heard) ≡ true)))
  fourteen_exactly =
      let any = or_yes (outside (pos 0) last_value heard) (bad_clock clock || outside_reached) in
      let positions = or_yes (bad_clock clock) outside_reached in
      (λ e. ⊎_elim inl (λ h. inr (positions.0 h)) (any.0 (not_followed_lem e)), λ c. (refused_is clock heard (any.1 (⊎_elim inl (λ h. inr (positions.1 h)) c))).0)

-- the clock goes on from the position that an accepted value answers
pub goes_on_from : (clock : Option ℤ) (heard : ℤ) (p : Position) → follow_answer clock heard ≡ value p → clock_after clock heard ≡ Some p.ticks
unfolding clock_after
goes_on_from clock heard p e = ap (λ o. after_call o (λ p. Some p.ticks) clock) e

-- a refused value, whatever the clock: the clock is kept
pub refused_keeps : (clock : Option ℤ) (heard : ℤ) (number : ℕ) → follow_answer clock heard ≡ refused number → clock_after clock heard ≡ clock
unfolding clock_after
refused_keeps clock heard number e = ap (λ o. after_call o (λ p. Some p.ticks) clock) e

-- an accepted position lies in the range, and its milliseconds are those of its ticks
pub accepted_in_range :
    (clock : Option ℤ) (heard : ℤ) (p : Position) → follow_answer clock heard ≡ value p →
    (p ≡ position_at p.ticks) × (outside (pos 0) last_position p.ticks ≡ false)
unfolding follow_answer
accepted_in_range clock heard p e =
    let t = passes (not_followed clock heard) 14 (value (position_at (reached clock heard))) (sym e) in
    let same = same_value t.1 in
    let ticks = ap (λ p. p.ticks) same in
    (same ∙ ap position_at (sym ticks), ap (outside (pos 0) last_position) ticks ∙ reached_inside clock heard t.0)

-- the milliseconds never fall where the positions do not
pub milliseconds_never_fall : (a b : ℤ) → lt_z b a ≡ false → lt_z (position_at b).milliseconds (position_at a).milliseconds ≡ false
milliseconds_never_fall a b h = quotient_monotone a b 90 (lit< tt) h

-- ---- tracking

-- what the clock shows at a position is one of its values, with the same remainder by 2^33
shown_inside : (position : ℤ) → outside (pos 0) last_value (shown_at position) ≡ false
shown_inside position =
    let l = remainder_below position wrap (lit< tt) in
    inside_pos 0 _ (floor_remainder position wrap) (omega arith) (omega arith)

shown_fits : (position next : ℤ) → floor_remainder (position +ℤ (next -ℤ position)) wrap ≡ floor_remainder (shown_at next) wrap
shown_fits position next =
    ap (λ z. floor_remainder z wrap) (add_difference position next) ∙ sym (mod-eq_of_lt (remainder_below next wrap (lit< tt)))

step_onward : (position next : ℤ) → Onward position next → Step position (shown_at next) (next -ℤ position)
step_onward position next o = record { low = o.low; high = o.high; fits = shown_fits position next }

-- one step of a run
onward :
    (position next : ℤ) → outside (pos 0) last_position position ≡ false → Onward position next →
    follow_answer (Some position) (shown_at next) ≡ value (position_at next)
onward position next h o =
    let there = add_difference position next in
    by_any_step position (shown_at next) (next -ℤ position) h (shown_inside next) (step_onward position next o)
    ∙ ap₂ (λ t z. cond t (refused 14) (value (position_at z))) (ap (outside (pos 0) last_position) there ∙ o.stays) there

tracks_from :
    {position : ℤ} {rest : List ℤ} → outside (pos 0) last_position position ≡ false → RunFrom position rest →
    answers_to (Some position) (map shown_at rest) ≡ map (λ p. value (position_at p)) rest
unfolding answers_to
tracks_from h done = refl
tracks_from {position} h (more {next = next} {rest = rest} o r) =
    let e = onward position next h o in
    ap₂ (λ a c. a ∷ answers_to c (map shown_at rest)) e (goes_on_from (Some position) (shown_at next) (position_at next) e)
    ∙ ap (λ l. value (position_at next) ∷ l) (tracks_from o.stays r)

-- a follower that has heard nothing, fed the true positions modulo 2^33, gives them back
pub tracking :
    (first : ℤ) (rest : List ℤ) → outside (pos 0) last_value first ≡ false → RunFrom first rest →
    answers_to None (map shown_at (first ∷ rest)) ≡ map (λ p. value (position_at p)) (first ∷ rest)
unfolding answers_to
tracking first rest h r =
    let w = natural_within 0 last_value first h in
    let small = w.high in
    let same : shown_at first ≡ first = ap shown_at w.is ∙ ap pos (mod-eq_of_lt (omega arith)) ∙ sym w.is in
    let e = accepted_is None first (first_value first h) in
    ap₂ (λ a c. a ∷ answers_to c (map shown_at rest)) (ap (follow_answer None) same ∙ e.0) (ap (clock_after None) same ∙ e.1)
    ∙ ap (λ l. value (position_at first) ∷ l) (tracks_from (value_inside first h) r)

-- ---- refused values and batches

-- a refused value changes nothing of what follows
pub refused_changes_nothing :
    (clock : Option ℤ) (heard : ℤ) (number : ℕ) (values : List ℤ) → follow_answer clock heard ≡ refused number →
    answers_to clock (heard ∷ values) ≡ refused number ∷ answers_to clock values
unfolding answers_to
refused_changes_nothing clock heard number values e = ap₂ (λ a c. a ∷ answers_to c values) e (refused_keeps clock heard number e)

-- the batch is the fold of the single call
pub batch_is_the_fold : (clock : Option ℤ) (values : List ℤ) → follow_all_answer clock values ≡ foldl one_more (so_far clock 0) values
unfolding follow_all_answer
batch_is_the_fold clock values = refl

-- what was passed over before a value is only added to
counts : (clock : Option ℤ) (n : ℕ) (values : List ℤ) → let b = foldl one_more (so_far clock 0) values in foldl one_more (so_far clock n) values ≡ so_far b.clock (n + b.skipped)
counts clock n [] = ap (so_far clock) (omega arith)
counts clock n (heard ∷ values) =
    let c = clock_after clock heard in
    let k = if_refused (follow_answer clock heard) in
    let i = counts c (n + k) values in
    let j = counts c (0 + k) values in
    i ∙ ap₂ so_far (sym (ap (λ b. b.clock) j)) (omega (arith, ap (λ b. b.skipped) j))

-- a batch from its first value on
pub first_and_rest :
    (clock : Option ℤ) (heard : ℤ) (values : List ℤ) → let rest = follow_all_answer (clock_after clock heard) values in
    follow_all_answer clock (heard ∷ values) ≡ so_far rest.clock (if_refused (follow_answer clock heard) + rest.skipped)
unfolding follow_all_answer
first_and_rest clock heard values =
    let c = clock_after clock heard in
    counts c (0 + if_refused (follow_answer clock heard)) values ∙ ap (so_far (foldl one_more (so_far c 0) values).clock) (omega arith)

-- a batch split anywhere: the second part goes on from the first one's clock, and the counts are added
pub split_anywhere :
    (clock : Option ℤ) (front back : List ℤ) → let first = follow_all_answer clock front in
    let second = follow_all_answer first.clock back in
    follow_all_answer clock (front ++ back) ≡ so_far second.clock (first.skipped + second.skipped)
unfolding follow_all_answer
split_anywhere clock front back =
    let first = foldl one_more (so_far clock 0) front in
    foldl-append one_more (so_far clock 0) front back ∙ counts first.clock first.skipped back

-- a refused value in a batch: the batch without it, and one more passed over
pub refused_in_a_batch :
    (clock : Option ℤ) (front back : List ℤ) (heard : ℤ) (number : ℕ) → follow_answer (follow_all_answer clock front).clock heard ≡ refused number →
    let without = follow_all_answer clock (front ++ back) in
    follow_all_answer clock (front ++ heard ∷ back) ≡ so_far without.clock (without.skipped + 1)
unfolding follow_all_answer
refused_in_a_batch clock front back heard number e =
    let first = foldl one_more (so_far clock 0) front in
    let here : one_more first heard ≡ so_far first.clock (first.skipped + 1) =
    ap₂ (λ c a. so_far c (first.skipped + if_refused a)) (refused_keeps first.clock heard number e) e in
    let with_it =
    foldl-append one_more (so_far clock 0) front (heard ∷ back) ∙ ap (λ b. foldl one_more b back) here
    ∙ counts first.clock (first.skipped + 1) back in
    let without-it = foldl-append one_more (so_far clock 0) front back ∙ counts first.clock first.skipped back in
    with_it ∙ ap₂ so_far (sym (ap (λ b. b.clock) without-it)) (omega (arith, ap (λ b. b.skipped) without-it))

-- no more than the values are passed over
at_most_one : (answer : Outcome Position) → if_refused answer ≤ 1
at_most_one (value p) = omega arith
at_most_one (refused number) = omega arith
at_most_one (refused_at number place) = omega arith

pub skipped_at_most : (clock : Option ℤ) (values : List ℤ) → (follow_all_answer clock values).skipped ≤ length values
unfolding follow_all_answer
skipped_at_most clock [] = omega arith
skipped_at_most clock (heard ∷ values) =
    let e = ap (λ b. b.skipped) (first_and_rest clock heard values) in
    omega (arith, e, at_most_one (follow_answer clock heard), skipped_at_most (clock_after clock heard) values)

-- where they all are, the clock is kept
kept_if : (clock : Option ℤ) (heard : ℤ) → if_refused (follow_answer clock heard) ≡ 1 → clock_after clock heard ≡ clock
unfolding clock_after
kept_if clock heard = go (follow_answer clock heard)
  where
    go : (answer : Outcome Position) → if_refused answer ≡ 1 → after_call answer (λ p. Some p.ticks) clock ≡ clock
    go (value p) e = absurd (omega arith)
    go (refused number) e = refl
    go (refused_at number place) e = refl

pub all_passed_over :
    (clock : Option ℤ) (values : List ℤ) → (follow_all_answer clock values).skipped ≡ length values → (follow_all_answer clock values).clock ≡ clock
unfolding follow_all_answer
all_passed_over clock [] e = refl
all_passed_over clock (heard ∷ values) e =
    let r = first_and_rest clock heard values in
    let next = clock_after clock heard in
    let n = sym (ap (λ b. b.skipped) r) ∙ e in
    let l = skipped_at_most next values in
    let h = at_most_one (follow_answer clock heard) in
    let m : (follow_all_answer next values).skipped ≡ length values = omega (arith, n, l, h) in
    let k : if_refused (follow_answer clock heard) ≡ 1 = omega (arith, n, l, h) in
    ap (λ b. b.clock) r ∙ all_passed_over next values m ∙ kept_if clock heard k

-- and a clock that has heard something stays so
heard_after : (position heard : ℤ) → (last : ℤ) × (clock_after (Some position) heard ≡ Some last)
unfolding clock_after
heard_after position heard = go (follow_answer (Some position) heard)
  where
    go : (answer : Outcome Position) → (last : ℤ) × (after_call answer (λ p. Some p.ticks) (Some position) ≡ Some last)
    go (value p) = (p.ticks, refl)
    go (refused number) = (position, refl)
    go (refused_at number place) = (position, refl)

pub stays_heard : (position : ℤ) (values : List ℤ) → (last : ℤ) × ((follow_all_answer (Some position) values).clock ≡ Some last)
unfolding follow_all_answer
stays_heard position [] = (position, refl)
stays_heard position (heard ∷ values) =
    let a = heard_after position heard in
    let s = stays_heard a.0 values in
    (s.0, ap (λ b. b.clock) (first_and_rest (Some position) heard values) ∙ ap (λ c. (follow_all_answer c values).clock) a.1 ∙ s.1)
