-- What the code finds out about a line, from where its blanks begin and end.
use Rattle.std.proofs.Common.{◌≡◌, ℕ, ◌+◌, ◌-◌, ◌<◌, ◌≤◌, Bool, true, false, cond, ◌&&◌, ltb, List, ◌++◌, length, get_or, take, drop, sym, refl, ap, ◌∙◌, ap₂, arith, length-append, length-drop, length-take, le-ltb, lt-ltb}
use mathlib.Core.Bool.{and-false}
use Rattle.refusal.specs.Outcome.{Outcome, refused}
use Rattle.numbers.proofs.Bools.{no_both, and_left, and_right}
use Rattle.labels.specs.Digits.{fits}
use Rattle.text.specs.Words.{part_of}
use Rattle.labels.specs.Timestamps.{is_timestamp}
use Rattle.labels.specs.CueLines.{is_blank, arrow}
use Rattle.labels.specs.Timings.{run, first_end, arrow_at, second_at, has_arrow, first_of, second_of, EndsFirst, some_blanks, marks_fit, is_cue}
use Rattle.labels.specs.Cues.{cue_line_answer}
use Rattle.labels.specs.Stamps.{stamp_of, cue_of_both}
use Rattle.labels.specs.declared.webvtt.Cue.{Cue}
use Rattle.text.proofs.Words.{part_three}
use Rattle.labels.proofs.Shapes.{uneven}
use Rattle.labels.proofs.StampNumbers.{no_stamp}
use Rattle.labels.proofs.StampRead.{stamp_length}
use Rattle.labels.proofs.CueParts.{no_cue_line}
use Rattle.labels.proofs.CueRuns.{solid_goes_on}
use Rattle.labels.proofs.CueStamps.{by_cuts}

-- a cue line has 23 bytes or more
pub few_bytes_line : (line : List ℕ) → length line < 23 → refused 13 ≡ cue_line_answer line
few_bytes_line line few =
    sym (no_cue_line line (λ first second c.
    let a = least first c.first_is in
    let b = least second c.second_is in
    let l = ap length c.line_is ∙ length-append first (c.before ++ (arrow ++ (c.behind ++ second))) in
    omega (
      arith,
      few,
      a,
      b,
      l,
      length-append c.before (arrow ++ (c.behind ++ second)),
      length-append c.behind second,
      some_blanks c.before c.blanks_before,
      some_blanks c.behind c.blanks_behind,
    )))
  where
    least : (text : List ℕ) → is_timestamp text ≡ true → 9 ≤ length text
    least text t = stamp_length text t (λ e. omega (arith, e)) (λ h. omega arith)

module _ (line : List ℕ) where
  abbrev read_both : Outcome Cue
  read_both = cue_of_both (stamp_of (first_of line)) (stamp_of (second_of line))

  no_arrow : has_arrow line ≡ false → refused 13 ≡ cue_line_answer line
  no_arrow e = sym (by_cuts line ∙ ap (λ t. cond t read_both (refused 13)) e)

  -- the first bytes are no timestamp
  no_first : is_timestamp (first_of line) ≡ false → refused 13 ≡ cue_line_answer line
  no_first e =
      sym (no_cue_line line (λ first second c.
      no_both (is_timestamp (first_of line)) (and_left (is_timestamp (first_of line)) _ (and_right (has_arrow line) _ (is_cue line first second c))) e))

  module _ {a p : ℕ} (first : EndsFirst line a) (ep : p ≡ a + run true (drop a line)) where
    -- what is 13 where a timestamp ends there is 13 where there is none
    if_first : (a ≡ first_end line → refused 13 ≡ cue_line_answer line) → refused 13 ≡ cue_line_answer line
    if_first f = go (is_timestamp (first_of line)) refl
      where
        go : (t : Bool) → is_timestamp (first_of line) ≡ t → refused 13 ≡ cue_line_answer line
        go true e = f (first.if_there e)
        go false e = no_first e

    at_arrow : a ≡ first_end line → p ≡ arrow_at line
    at_arrow e = ep ∙ ap (λ a. a + run true (drop a line)) e

    -- no arrow stands there
    pub no_mark : {t : Bool} → t ≡ fits arrow (part_of p 3 line) → t ≡ false → refused 13 ≡ cue_line_answer line
    no_mark m n =
        if_first (λ e. no_arrow (
        ap (λ t. ltb (first_end line) (arrow_at line) && (t && ltb (arrow_at line + 3) (second_at line))) (sym (ap (λ p. fits arrow (part_of p 3 line)) (at_arrow e)) ∙ sym m ∙ n)
        ∙ and-false (ltb (first_end line) (arrow_at line))))

    pub cut_short : length line - p < 3 → refused 13 ≡ cue_line_answer line
    cut_short l = no_mark refl (uneven arrow (part_of p 3 line) (λ e. omega (arith, l, e, length-take 3 (drop p line), length-drop p line)))

    -- an arrow stands there, so that there is a blank in front of it: the bytes that are none do not end before a dash
    module _ (l : 3 ≤ length line - p) {t : Bool} (m : t ≡ fits arrow (part_of p 3 line)) (y : t ≡ true) where
      dash : get_or line p 0 ≡ 45
      dash = ap (λ l. get_or l 0 0) (sym (part_three p line (omega arith)) ∙ marks_fit arrow (part_of p 3 line) (refl, (refl, (refl, tt))) (sym m ∙ y))

      apart : a ≡ first_end line → p ≡ a → ⊥
      apart e g = solid_goes_on line p (omega arith) (ap is_blank dash) (sym e ∙ sym g)

      before : a ≡ first_end line → ltb (first_end line) (arrow_at line) ≡ true
      before e = lt-ltb (first_end line) (arrow_at line) (omega (arith, apart e, ep, e, at_arrow e))

      there : a ≡ first_end line → fits arrow (take 3 (drop (arrow_at line) line)) ≡ true
      there e = sym (ap (λ p. fits arrow (part_of p 3 line)) (at_arrow e)) ∙ sym m ∙ y

      module _ {q : ℕ} (eq : q ≡ p + 3 + run true (drop (p + 3) line)) where
        at_second : a ≡ first_end line → q ≡ second_at line
        at_second e = eq ∙ ap (λ p. p + 3 + run true (drop (p + 3) line)) (at_arrow e)

        -- no blank behind the arrow
        pub glued_back : q ≡ p + 3 → refused 13 ≡ cue_line_answer line
        glued_back g =
            if_first (λ e. no_arrow (ap₂ ◌&&◌ (before e)
            (ap₂ ◌&&◌ (there e) (le-ltb (arrow_at line + 3) (second_at line) (omega (arith, at_arrow e, at_second e, g))))))

        pub both_there : (q ≡ p + 3 → ⊥) → cue_of_both (stamp_of (take a line)) (stamp_of (drop q line)) ≡ cue_line_answer line
        both_there h = go (is_timestamp (take a line)) refl
          where
            read : a ≡ first_end line → cue_of_both (stamp_of (take a line)) (stamp_of (drop q line)) ≡ cue_line_answer line
            read e =
                ap₂ cue_of_both (ap (λ a. stamp_of (take a line)) e) (ap (λ q. stamp_of (drop q line)) (at_second e))
                ∙ sym (by_cuts line
                ∙ ap (λ t. cond t read_both (refused 13))
                (ap₂ ◌&&◌ (before e) (ap₂ ◌&&◌ (there e) (lt-ltb (arrow_at line + 3) (second_at line) (omega (arith, h, eq, at_arrow e, at_second e))))))

            -- where no timestamp is read there is none
            go : (t : Bool) → is_timestamp (take a line) ≡ t → cue_of_both (stamp_of (take a line)) (stamp_of (drop q line)) ≡ cue_line_answer line
            go true e = read (first.if_taken e)
            go false e =
                ap (λ m. cue_of_both m (stamp_of (drop q line))) (sym (no_stamp (take a line) (λ t. no_both (is_timestamp (take a line)) t e)))
                ∙ none_there (is_timestamp (first_of line)) refl
              where
                none_there : (t : Bool) → is_timestamp (first_of line) ≡ t → refused 13 ≡ cue_line_answer line
                none_there true t = no_both (is_timestamp (take a line)) (ap (λ a. is_timestamp (take a line)) (first.if_there t) ∙ t) e
                none_there false t = no_first t
