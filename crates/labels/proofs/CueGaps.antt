-- The arrow, and the arrow between one space on each side, as the code finds them.
use Rattle.std.proofs.Common.{◌≡◌, ℕ, ◌+◌, ◌≤◌, Bool, true, false, ◌&&◌, eqb, List, [], ◌∷◌, ◌++◌, length, get_or, sym, refl, ap, ◌∙◌, ap₂, arith, w8, Fits, eq-eqb, ne_eqb, eqb-true}
use mathlib.Core.Bool.{and-true}
use Rattle.numbers.proofs.Bools.{and_left, and_right}
use Rattle.labels.specs.Digits.{fits}
use Rattle.text.specs.Words.{word, bytes_of, part_of}
use Rattle.labels.specs.CueLines.{arrow}
use Rattle.labels.specs.Timings.{usual_gap}
use Rattle.text.proofs.Words.{bytes, all_bytes, part_length, part_le, part_three, part_four, part_more}

module _ (line : List ℕ) (at : ℕ) (h : at + 5 ≤ length line) where
  abbrev x : ℕ
  x = get_or line at 0

  abbrev y : ℕ
  y = get_or line (at + 1) 0

  abbrev z : ℕ
  z = get_or line (at + 2) 0

  abbrev w : ℕ
  w = get_or line (at + 3) 0

  abbrev v : ℕ
  v = get_or line (at + 4) 0

  four : part_of at 4 line ≡ x ∷ y ∷ z ∷ w ∷ []
  four = part_four at line (omega arith)

  by_bytes : fits usual_gap (part_of at 5 line) ≡ eqb x 32 && (eqb y 45 && (eqb z 45 && (eqb w 62 && (eqb v 32 && true))))
  by_bytes = ap (fits usual_gap) (part_more at 4 line (omega arith) ∙ ap (λ l. l ++ v ∷ []) four)

  pub gap_there : ((i : ℕ) → Fits w8 (get_or line i 0)) → {n : ℕ} → n ≡ word (part_of at 4 line) → n ≡ 1043148064 → eqb v 32 ≡ fits usual_gap (part_of at 5 line)
  gap_there fit {n} e f =
      let l : part_of at 4 line ≡ 32 ∷ 45 ∷ 45 ∷ 62 ∷ [] =
      sym (all_bytes (part_of at 4 line) e (part_le 255 at 4 line (bytes line fit)) (part_length at 4 line (omega arith))) ∙ ap (bytes_of 4) f in
      sym (ap (fits usual_gap) (part_more at 4 line (omega arith) ∙ ap (λ l. l ++ v ∷ []) l) ∙ and-true (eqb v 32))

  pub no_gap : {n : ℕ} → n ≡ word (part_of at 4 line) → (n ≡ 1043148064 → ⊥) → eqb n 1043148064 ≡ fits usual_gap (part_of at 5 line)
  no_gap {n} e never = ne_eqb n 1043148064 never ∙ sym (go (fits usual_gap (part_of at 5 line)) refl)
    where
      go : (t : Bool) → fits usual_gap (part_of at 5 line) ≡ t → t ≡ false
      go true f =
          let p = sym by_bytes ∙ f in
          let q = and_right (eqb x 32) _ p in
          let r = and_right (eqb y 45) _ q in
          let s = and_right (eqb z 45) _ r in
          absurd (never (e ∙ ap word four
          ∙ omega (arith, eqb-true x 32 (and_left (eqb x 32) _ p), eqb-true y 45 (and_left (eqb y 45) _ q), eqb-true z 45 (and_left (eqb z 45) _ r), eqb-true w 62 (and_left (eqb w 62) _ s))))
      go false f = refl

-- the arrow, byte by byte
module _ (line : List ℕ) (at : ℕ) (h : at + 3 ≤ length line) where
  arrow_is : fits arrow (part_of at 3 line) ≡ eqb (get_or line at 0) 45 && (eqb (get_or line (at + 1) 0) 45 && (eqb (get_or line (at + 2) 0) 62 && true))
  arrow_is = ap (fits arrow) (part_three at line h)

  pub other_first : (get_or line at 0 ≡ 45 → ⊥) → false ≡ fits arrow (part_of at 3 line)
  other_first f =
      sym (arrow_is ∙ ap (λ t. t && (eqb (get_or line (at + 1) 0) 45 && (eqb (get_or line (at + 2) 0) 62 && true))) (ne_eqb (get_or line at 0) 45 f))

  module _ (x : get_or line at 0 ≡ 45) where
    pub other_second : (get_or line (at + 1) 0 ≡ 45 → ⊥) → false ≡ fits arrow (part_of at 3 line)
    other_second f =
        sym (arrow_is
        ∙ ap₂ (λ s t. s && (t && (eqb (get_or line (at + 2) 0) 62 && true))) (eq-eqb (get_or line at 0) 45 x) (ne_eqb (get_or line (at + 1) 0) 45 f))

    pub third_tells : get_or line (at + 1) 0 ≡ 45 → eqb (get_or line (at + 2) 0) 62 ≡ fits arrow (part_of at 3 line)
    third_tells y =
        sym (arrow_is ∙ ap₂ (λ s t. s && (t && (eqb (get_or line (at + 2) 0) 62 && true))) (eq-eqb (get_or line at 0) 45 x) (eq-eqb (get_or line (at + 1) 0) 45 y)
        ∙ and-true (eqb (get_or line (at + 2) 0) 62))
