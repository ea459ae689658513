-- When a cue line is accepted, and when it is refused with 6 and with 13.
use Rattle.std.proofs.Common.{◌≡◌, ℕ, Bool, true, false, cond, ◌⊎◌, ◌↔◌, List, ℤ, pos, sym, refl, ap, ◌∙◌, subst, ap₂, inl, inr, arith}
use lib.Signed.{lt_z}
use Rattle.refusal.specs.Outcome.{Outcome, value, refused}
use Rattle.refusal.proofs.Outcomes.{clash, same_value}
use Rattle.numbers.specs.Range.{outside}
use Rattle.labels.specs.Webvtt.{last_position}
use Rattle.labels.specs.Timestamps.{is_timestamp, position_of, position_answer}
use Rattle.labels.specs.CueLines.{CueLine, Timing, between, of_none}
use Rattle.labels.specs.Timings.{timing_of}
use Rattle.labels.specs.Cues.{cue_between, cue_of, cue_line_answer, InOrder, AboveLimit, NotLater}
use Rattle.labels.specs.declared.webvtt.Cue.{Cue}
use Rattle.labels.proofs.CueParts.{cue_line, no_cue_line}
use Rattle.labels.proofs.ReadBack.{position_in_range}

-- ---- two timestamps

module _ (first second : List ℕ) where
  pair : {a b : Outcome ℤ} → position_answer first ≡ a → position_answer second ≡ b → cue_of first second ≡ cue_between a b
  unfolding cue_of
  pair p q = ap₂ cue_between p q

  -- and of two positions in the range
  order :
      {start end : ℤ} {t : Bool} → position_answer first ≡ value start → position_answer second ≡ value end → lt_z start end ≡ t →
      cue_of first second ≡ cond t (value (record { start = start; end = end })) (refused 13)
  order {start} {end} p q t = pair p q ∙ ap (λ t. cond t (value (record { start = start; end = end })) (refused 13)) t

-- a timestamp is above the limit or in the range
six_or_read : {G : Type 0} (text : List ℕ) → is_timestamp text ≡ true → (position_answer text ≡ refused 6 → G) → ((z : ℤ) → position_answer text ≡ value z → G) → G
unfolding position_answer
six_or_read {G} text t high given = go (outside (pos 0) last_position (pos (position_of text))) refl
  where
    answer : (t o : Bool) → Outcome ℤ
    answer t o = cond t (cond o (refused 6) (value (pos (position_of text)))) (refused 13)

    go : (o : Bool) → outside (pos 0) last_position (pos (position_of text)) ≡ o → G
    go true o = high (ap₂ answer t o)
    go false o = given (pos (position_of text)) (ap₂ answer t o)

-- ---- a line

-- no cue line, or one of three
by_cue :
    {G : Type 0} (line : List ℕ) → (((first second : List ℕ) → CueLine line first second → ⊥) → cue_line_answer line ≡ refused 13 → G) →
    (AboveLimit line → cue_line_answer line ≡ refused 6 → G) → (NotLater line → cue_line_answer line ≡ refused 13 → G) →
    ((c : Cue) → InOrder line c → cue_line_answer line ≡ value c → G) → G
by_cue {G} line missing high late given = go (timing_of line)
  where
    ordered : (first second : List ℕ) → CueLine line first second → (start end : ℤ) → position_answer first ≡ value start → position_answer second ≡ value end →
        (t : Bool) → lt_z start end ≡ t → G
    ordered first second d start end p q true t =
        given (record { start = start; end = end })
        (record { first = first; second = second; parts = d; start_read = p; end_read = q; later = t })
        (cue_line line first second d ∙ order first second p q t)
    ordered first second d start end p q false t =
        late
        (record { first = first; second = second; parts = d; start = start; end = end; start_read = p; end_read = q; not_later = t })
        (cue_line line first second d ∙ order first second p q t)

    go : Timing line → G
    go (of_none never) = missing never (no_cue_line line never)
    go (between first second d) =
        six_or_read first d.first_is
        (λ p. high (record { first = first; second = second; parts = d; above = inl p }) (cue_line line first second d ∙ pair first second p refl))
        (λ start p.
        six_or_read second d.second_is
        (λ q. high (record { first = first; second = second; parts = d; above = inr q }) (cue_line line first second d ∙ pair first second p q))
        (λ end q. ordered first second d start end p q (lt_z start end) refl))

-- a line is accepted exactly if it is a cue line with both positions in the range, and the end later than the start
pub cue_exactly : (line : List ℕ) (c : Cue) → (cue_line_answer line ≡ value c) ↔ InOrder line c
cue_exactly line c = (
  λ e.
      by_cue line (λ n a. let z = sym a ∙ e in clash (cc)) (λ h a. let z = sym a ∙ e in clash (cc)) (λ l a. let z = sym a ∙ e in clash (cc))
      (λ d r a. subst (InOrder line) (same_value (sym a ∙ e)) r),
  λ r.
      cue_line line r.first r.second r.parts
      ∙ order r.first r.second r.start_read r.end_read r.later,
)

-- it is refused with 6 exactly if it is a cue line one of whose positions is above the limit
pub cue_six_exactly : (line : List ℕ) → (cue_line_answer line ≡ refused 6) ↔ AboveLimit line
cue_six_exactly line = (
  λ e.
      by_cue line (λ n a. thirteen (sym a ∙ e)) (λ h a. h) (λ l a. thirteen (sym a ∙ e)) (λ d r a. let z = sym a ∙ e in clash (cc)),
  λ h. cue_line line h.first h.second h.parts ∙ of_two h.first h.second h.parts.first_is h.above,
)
  where
    thirteen : {G : Type 0} → ◌≡◌ {A = Outcome Cue} (refused 13) (refused 6) → G
    thirteen e = let z : ◌≡◌ {A = ℕ} 13 6 = cc in absurd (omega arith)

    of_two : (first second : List ℕ) → is_timestamp first ≡ true → (position_answer first ≡ refused 6) ⊎ (position_answer second ≡ refused 6) → cue_of first second ≡ refused 6
    of_two first second t (inl p) = pair first second p refl
    of_two first second t (inr q) = six_or_read first t (λ p. pair first second p refl) (λ start p. pair first second p q)

-- it is refused with 13 exactly if it is no cue line, or one with both positions in the range and an end not later than the start
pub cue_thirteen_exactly :
    (line : List ℕ) → (cue_line_answer line ≡ refused 13) ↔ (((first second : List ℕ) → CueLine line first second → ⊥) ⊎ NotLater line)
cue_thirteen_exactly line = (
  λ e. by_cue line (λ n a. inl n) (λ h a. six (sym a ∙ e)) (λ l a. inr l) (λ d r a. let z = sym a ∙ e in clash (cc)),
  either,
)
  where
    six : {G : Type 0} → ◌≡◌ {A = Outcome Cue} (refused 6) (refused 13) → G
    six e = let z : ◌≡◌ {A = ℕ} 6 13 = cc in absurd (omega arith)

    either : ((first second : List ℕ) → CueLine line first second → ⊥) ⊎ NotLater line → cue_line_answer line ≡ refused 13
    either (inl n) = no_cue_line line n
    either (inr l) =
        cue_line line l.first l.second l.parts
        ∙ order l.first l.second l.start_read l.end_read l.not_later

-- an accepted cue has both positions in the range, and the start before the end
pub cue_in_order :
    (line : List ℕ) (c : Cue) → cue_line_answer line ≡ value c →
    ((outside (pos 0) last_position c.start ≡ false) × (outside (pos 0) last_position c.end ≡ false)) × (lt_z c.start c.end ≡ true)
cue_in_order line c e =
    let r = (cue_exactly line c).0 e in
    ((position_in_range r.first c.start r.start_read, position_in_range r.second c.end r.end_read), r.later)
