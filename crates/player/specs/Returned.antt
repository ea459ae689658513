-- What the exported calls return, and what they leave in the places that the caller hands in: document 01, "What the label desk gets":
-- the value, "or the refusal number negated". A value that may be below zero, or is more than one number, goes to a place instead, and
-- the call then returns 0, or what else is never below zero. What such a place holds after a call is `after_call` of the call's answer; a
-- place or least n that a refusal hands back has a place of its own (`after_refusal`).
use Rattle.std.specs.Prelude.{ℕ, ◌≡◌, Bool, true, false, cond, Option, None, Some, ℤ, pos, neg_ℤ, get_or}
use mathlib.Core.List.{List, [], ◌∷◌, foldl}
use Rattle.std.specs.Int.Signed.{non_neg}
use Rattle.refusal.specs.Outcome.{Outcome, value, refused, refused_at, map_value, after_call}
use Rattle.numbers.specs.Range.{eq_z}
use Rattle.calendar.specs.declared.Date.{Date}
use Rattle.week.specs.declared.WeekDate.{WeekDate}
use Rattle.instant.specs.declared.Fields.{Fields}
use Rattle.labels.specs.declared.webvtt.Cue.{Cue}
use Rattle.constants.specs.Least.{Found, at, none}
use Rattle.sheet.specs.declared.Contents.{Contents}
use Rattle.sheet.specs.declared.Claim.{Claim}
use Rattle.transport.specs.Answers.{follow_answer}
use Rattle.transport.specs.declared.Position.{Position}

-- the value, or the refusal's number negated
abbrev pub returned : Outcome ℤ → ℤ
returned (value n) = n
returned (refused number) = neg_ℤ (pos number)
returned (refused_at number place) = neg_ℤ (pos number)

-- a count, which is never below zero
abbrev pub returned_count : Outcome ℕ → ℤ
returned_count answer = returned (map_value pos answer)

-- 1 for a flag that is set, else 0
abbrev pub returned_flag : Outcome Bool → ℤ
returned_flag answer = returned (map_value (λ flag. cond flag (pos 1) (pos 0)) answer)

-- 0 where the value goes to a place or there is none
abbrev pub returned_done : {A : Type 0} → Outcome A → ℤ
returned_done answer = returned (map_value (λ a. pos 0) answer)

-- the number that was found, or the end of the search where there is none below it
abbrev pub found_or : (end : ℤ) → Found → ℤ
found_or end (at n) = pos n
found_or end none = end

abbrev pub returned_found : (end : ℤ) → Outcome Found → ℤ
returned_found end answer = returned (map_value (found_or end) answer)

-- a date, a week date, fields and a cue as the numbers of their place, in the order of the papers
abbrev pub date_numbers : Date → List ℤ
date_numbers d = d.year ∷ d.month ∷ d.day ∷ []

abbrev pub week_numbers : WeekDate → List ℤ
week_numbers w = w.year ∷ w.week ∷ w.weekday ∷ []

abbrev pub fields_numbers : Fields → List ℤ
fields_numbers f = f.year ∷ f.month ∷ f.day ∷ f.hour ∷ f.minute ∷ f.second ∷ f.millisecond ∷ []

abbrev pub cue_numbers : Cue → List ℤ
cue_numbers c = c.start ∷ c.end ∷ []

-- of a sheet the number of records is returned, and the length of the note goes to a place
abbrev pub returned_records : Outcome Contents → ℤ
returned_records answer = returned (map_value (λ c. pos c.records) answer)

abbrev pub length_of_note : Contents → ℤ
length_of_note c = pos c.offset

abbrev pub record_numbers : Claim → List ℤ
record_numbers r =
    pos r.a ∷ pos r.b ∷ pos r.d ∷ pos r.m ∷ pos r.c ∷ pos r.k ∷ pos r.t ∷ pos r.bound ∷ []

-- a transport clock is two numbers, `heard` and `position`: nothing has been heard where `heard` is 0, and `position` is then not
-- looked at
abbrev pub clock_from : (heard position : ℤ) → Option ℤ
clock_from heard position = cond (eq_z heard (pos 0)) None (Some position)

abbrev pub clock_of : (numbers : List ℤ) → Option ℤ
clock_of numbers = clock_from (get_or numbers 0 (pos 0)) (get_or numbers 1 (pos 0))

-- what they are after a value: 1 and the position of an accepted one, and else what they were
abbrev pub clock_numbers : (position : ℤ) → List ℤ
clock_numbers position = pos 1 ∷ position ∷ []

unfoldable pub clock_after_value : (numbers : List ℤ) (received : ℤ) → List ℤ
clock_after_value numbers received = after_call (follow_answer (clock_of numbers) received) (λ p. clock_numbers p.ticks) numbers

-- after a list of values, one behind the other
unfoldable pub clock_after_values : (numbers values : List ℤ) → List ℤ
clock_after_values numbers values = foldl clock_after_value numbers values

-- an accepted value's milliseconds
abbrev pub returned_milliseconds : Outcome Position → ℤ
returned_milliseconds answer = returned (map_value (λ p. p.milliseconds) answer)

-- what the place for a refusal's own place or least n holds after a call: what the refusal hands back, and in every other case what
-- it held before
abbrev pub after_refusal : {A : Type 0} → Outcome A → (before : ℤ) → ℤ
after_refusal (value a) before = before
after_refusal (refused number) before = before
after_refusal (refused_at number place) before = pos place

-- the call was not refused
abbrev pub done : {A : Type 0} → Outcome A → Bool
done (value a) = true
done (refused number) = false
done (refused_at number place) = false

-- what is returned tells whether the call was refused: it is 0 or more exactly if the call is done
pub record Tells {A : Type 0} (returns : Outcome A → ℤ) (answer : Outcome A) : Type 0 where
  pub exactly : non_neg (returns answer) ≡ done answer
