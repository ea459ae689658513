-- Whether a line is a cue line, found from where its blanks begin and end. Of all this only the type of `timing_of` has to be believed;
-- the rest is its proof, and for private contracts.
use Rattle.std.specs.Prelude.{◌≡◌, ℕ, zero, suc, ◌+◌, ◌-◌, ◌<◌, ◌≤◌, Bool, true, false, cond, not, ◌&&◌, ◌||◌, ◌⊎◌, List, [], ◌∷◌, ◌++◌, length, take, drop, ◌==◌, nat_le, nat_lt, refl}
use Rattle.std.proofs.Common.{sym, ap, ap₂, ◌∙◌, subst, inl, inr, ⊎_elim, arith, eqb-true, leb-true, ltb-true, lt-ltb, ne_eqb, take-append-drop, take_at, drop_at, drop-drop, length-take-le}
use Rattle.std.proofs.lemmas.Bool.{not-true}
use Rattle.numbers.proofs.Bools.{no_both, and_left, and_right}
use Rattle.text.specs.Decimal.{digits, is_digit}
use Rattle.labels.specs.Digits.{letter_t, letter_z, has_small, small, is_mark, fits_one, fits}
use Rattle.labels.specs.Clock.{colon, clock_text}
use Rattle.labels.specs.Timestamps.{last_nine, in_front, is_clock, are_hours, is_timestamp}
use Rattle.labels.specs.CueLines.{is_blank, all_blank, are_blanks, arrow, CueLine, Timing, between, of_none}

-- ---- where the parts of a line begin and end

abbrev pub same : Bool → Bool → Bool
same true b = b
same false b = not b

-- how many bytes at the front of a text are blank, or how many are not
abbrev pub run : (blank : Bool) → (text : List ℕ) → ℕ
run blank [] = 0
run blank (byte ∷ bytes) = cond (same blank (is_blank byte)) (suc (run blank bytes)) 0

-- ` --> `
abbrev pub usual_gap : List ℕ
usual_gap = 32 ∷ 45 ∷ 45 ∷ 62 ∷ 32 ∷ []

abbrev pub first_end : (line : List ℕ) → ℕ
first_end line = run false line

abbrev pub arrow_at : (line : List ℕ) → ℕ
arrow_at line = first_end line + run true (drop (first_end line) line)

abbrev pub second_at : (line : List ℕ) → ℕ
second_at line = arrow_at line + 3 + run true (drop (arrow_at line + 3) line)

abbrev pub has_arrow : (line : List ℕ) → Bool
has_arrow line = nat_lt (first_end line) (arrow_at line) && (fits arrow (take 3 (drop (arrow_at line) line)) && nat_lt (arrow_at line + 3) (second_at line))

abbrev pub first_of : (line : List ℕ) → List ℕ
first_of line = take (first_end line) line

abbrev pub second_of : (line : List ℕ) → List ℕ
second_of line = drop (second_at line) line

-- where the first timestamp ends, if there is one: where it is taken to end, it does
pub record EndsFirst (line : List ℕ) (at : ℕ) : Type 0 where
  pub if_there : is_timestamp (first_of line) ≡ true → at ≡ first_end line
  pub if_taken : is_timestamp (take at line) ≡ true → at ≡ first_end line

abbrev pub is_cue_line : (line : List ℕ) → Bool
is_cue_line line = has_arrow line && (is_timestamp (first_of line) && is_timestamp (second_of line))

-- ---- timestamps have no blank

abbrev pub AllAre : (blank : Bool) → List ℕ → Type 0
AllAre blank [] = Unit {0}
AllAre blank (byte ∷ bytes) = (same blank (is_blank byte) ≡ true) × AllAre blank bytes

all_append : (k : Bool) (a b : List ℕ) → AllAre k a → AllAre k b → AllAre k (a ++ b)
all_append k [] b h g = g
all_append k (x ∷ a) b h g = (h.0, all_append k a b h.1 g)

solid_digit : (byte : ℕ) → is_digit byte ≡ true → not (is_blank byte) ≡ true
solid_digit byte h =
    let l = leb-true 48 byte (and_left (nat_le 48 byte) (nat_le byte 57) h) in
    ap₂ (λ a b. not (a || b)) (ne_eqb byte 32 (λ e. omega arith)) (ne_eqb byte 9 (λ e. omega arith))

-- the marks that may be small are T and Z
pub letter_is : (mark : ℕ) → has_small mark ≡ true → (mark ≡ letter_t) ⊎ (mark ≡ letter_z)
letter_is mark = go (mark == letter_t) refl
  where
    go : (t : Bool) → (mark == letter_t) ≡ t → (t || mark == letter_z) ≡ true → (mark ≡ letter_t) ⊎ (mark ≡ letter_z)
    go true e h = inl (eqb-true mark letter_t e)
    go false e h = inr (eqb-true mark letter_z h)

fits_solid : (shape text : List ℕ) → AllAre false shape → fits shape text ≡ true → AllAre false text
fits_solid [] [] a h = tt
fits_solid [] (b ∷ bs) a h = no_both false h refl
fits_solid (s ∷ ss) [] a h = no_both false h refl
fits_solid (s ∷ ss) (b ∷ bs) a h = (one (s == 48) (and_left (fits_one s b) (fits ss bs) h), fits_solid ss bs a.1 (and_right (fits_one s b) (fits ss bs) h))
  where
    mark : (t : Bool) → has_small s && (b == small s) ≡ t → (t || b == s) ≡ true → not (is_blank b) ≡ true
    mark true e f =
        let k = eqb-true b (small s) (and_right (has_small s) _ e) in
        let l : 84 ≤ s = ⊎_elim (λ e. omega arith) (λ e. omega arith) (letter_is s (and_left (has_small s) _ e)) in
        ap₂ (λ a b. not (a || b)) (ne_eqb b 32 (λ e. omega arith)) (ne_eqb b 9 (λ e. omega arith))
    mark false e f = ap (λ b. not (is_blank b)) (eqb-true b s f) ∙ a.0

    one : (d : Bool) → cond d (is_digit b) (is_mark s b) ≡ true → not (is_blank b) ≡ true
    one true f = solid_digit b f
    one false f = mark (has_small s && b == small s) refl f

zeros_solid : (count : ℕ) → AllAre false (digits 0 count)
zeros_solid zero = tt
zeros_solid (suc count) = all_append false (digits 0 count) (48 ∷ []) (zeros_solid count) (refl, tt)

clock_solid : (text : List ℕ) → is_clock text ≡ true → AllAre false text
clock_solid text h =
    fits_solid (clock_text 3 0 0 0) text (refl, (refl, (refl, (refl, (refl, (refl, (refl, (refl, (refl, tt)))))))))
    (and_left (fits (clock_text 3 0 0 0) text) _ h)

front_solid : (front : List ℕ) → (length front == 0 || are_hours front) ≡ true → AllAre false front
front_solid front h = go (length front == 0) refl h
  where
    none_there : (l : List ℕ) → length l ≡ 0 → AllAre false l
    none_there [] e = tt
    none_there (b ∷ bs) e = absurd (omega arith)

    go : (t : Bool) → (length front == 0) ≡ t → (t || are_hours front) ≡ true → AllAre false front
    go true e h = none_there front (eqb-true (length front) 0 e)
    go false e h =
        let n = length front - 1 in
        fits_solid (digits 0 n ++ colon ∷ []) front (all_append false (digits 0 n) (colon ∷ []) (zeros_solid n) (refl, tt))
        (and_right (nat_le 2 n) (fits (digits 0 n ++ colon ∷ []) front) h)

pub stamp_solid : (text : List ℕ) → is_timestamp text ≡ true → AllAre false text
stamp_solid text h =
    subst (AllAre false) (take-append-drop (length text - 9) text)
    (all_append false (in_front text) (last_nine text)
    (front_solid (in_front text) (and_right (is_clock (last_nine text)) _ h)) (clock_solid (last_nine text) (and_left (is_clock (last_nine text)) _ h)))

-- ---- blanks, and a text that they are in front of

abbrev starts : (blank : Bool) → List ℕ → Bool
starts blank [] = false
starts blank (byte ∷ bytes) = same blank (is_blank byte)

run_over : (k : Bool) (a b : List ℕ) → AllAre k a → starts k b ≡ false → run k (a ++ b) ≡ length a
run_over k [] [] h e = refl
run_over k [] (x ∷ b) h e = ap (λ t. cond t (suc (run k b)) 0) e
run_over k (x ∷ a) b h e = ap (λ t. cond t (suc (run k (a ++ b))) 0) h.0 ∙ ap suc (run_over k a b h.1 e)

blank_all : (text : List ℕ) → all_blank text ≡ true → AllAre true text
blank_all [] h = tt
blank_all (b ∷ bs) h = (and_left (is_blank b) _ h, blank_all bs (and_right (is_blank b) _ h))

blanks_all : (text : List ℕ) → are_blanks text ≡ true → AllAre true text
blanks_all [] h = tt
blanks_all (b ∷ bs) h = blank_all (b ∷ bs) h

pub some_blanks : (text : List ℕ) → are_blanks text ≡ true → 0 < length text
some_blanks [] h = no_both false h refl
some_blanks (b ∷ bs) h = omega arith

-- what begins with a blank does not begin with another byte, and the other way round
blanks_first : (text more : List ℕ) → are_blanks text ≡ true → starts false (text ++ more) ≡ false
blanks_first [] more h = no_both false h refl
blanks_first (b ∷ bs) more h = ap not (and_left (is_blank b) _ h)

solid_first : (text : List ℕ) → AllAre false text → starts true text ≡ false
solid_first [] h = refl
solid_first (b ∷ bs) h = not-true (is_blank b) h.0

run_blank : (text : List ℕ) → all_blank (take (run true text) text) ≡ true
run_blank [] = refl
run_blank (b ∷ bs) = go (is_blank b) refl (run_blank bs)
  where
    go : (t : Bool) → is_blank b ≡ t → all_blank (take (run true bs) bs) ≡ true → all_blank (take (cond t (suc (run true bs)) 0) (b ∷ bs)) ≡ true
    go true e h = ap₂ ◌&&◌ e h
    go false e h = refl

pub run_le : (k : Bool) (text : List ℕ) → run k text ≤ length text
run_le k [] = omega arith
run_le k (b ∷ bs) = step (same k (is_blank b)) (run_le k bs)
  where
    step : (t : Bool) → run k bs ≤ length bs → cond t (suc (run k bs)) 0 ≤ suc (length bs)
    step true h = omega arith
    step false h = omega arith

run_blanks : (text : List ℕ) → 0 < run true text → are_blanks (take (run true text) text) ≡ true
run_blanks text h = go (take (run true text) text) (run_blank text) (length-take-le (run true text) text (run_le true text))
  where
    go : (l : List ℕ) → all_blank l ≡ true → length l ≡ run true text → are_blanks l ≡ true
    go [] a e = absurd (omega arith)
    go (b ∷ bs) a e = a

-- ---- a cue line is one whose parts lie there

pub record Cuts (line first second : List ℕ) : Type 0 where
  pub first_cut : first_of line ≡ first
  pub gap_before : first_end line < arrow_at line
  pub arrow_cut : take 3 (drop (arrow_at line) line) ≡ arrow
  pub gap_behind : arrow_at line + 3 < second_at line
  pub second_cut : second_of line ≡ second

pub cuts_of : (line first second : List ℕ) → CueLine line first second → Cuts line first second
cuts_of line first second c =
    let before = c.before in
    let behind = c.behind in
    let rest = before ++ (arrow ++ (behind ++ second)) in
    let a : first_end line ≡ length first =
    ap (run false) c.line_is ∙ run_over false first rest (stamp_solid first c.first_is) (blanks_first before (arrow ++ (behind ++ second)) c.blanks_before) in
    let d : drop (first_end line) line ≡ rest = ap₂ drop a c.line_is ∙ drop_at first rest (length first) refl in
    let b : run true (drop (first_end line) line) ≡ length before =
    ap (run true) d ∙ run_over true before (arrow ++ (behind ++ second)) (blanks_all before c.blanks_before) refl in
    let e : drop (arrow_at line) line ≡ arrow ++ (behind ++ second) =
    sym (drop-drop (run true (drop (first_end line) line)) (first_end line) line) ∙ ap₂ drop b d ∙ drop_at before (arrow ++ (behind ++ second)) (length before) refl in
    let f : drop (arrow_at line + 3) line ≡ behind ++ second = sym (drop-drop 3 (arrow_at line) line) ∙ ap (drop 3) e in
    let g : run true (drop (arrow_at line + 3) line) ≡ length behind =
    ap (run true) f ∙ run_over true behind second (blanks_all behind c.blanks_behind) (solid_first second (stamp_solid second c.second_is)) in
    record {
      first_cut = ap₂ take a c.line_is ∙ take_at first rest (length first) refl;
      gap_before = omega (arith, b, some_blanks before c.blanks_before);
      arrow_cut = ap (take 3) e;
      gap_behind = omega (arith, g, some_blanks behind c.blanks_behind);
      second_cut = sym (drop-drop (run true (drop (arrow_at line + 3) line)) (arrow_at line + 3) line) ∙ ap₂ drop g f ∙ drop_at behind second (length behind) refl;
    }

-- marks of one byte fit themselves only
abbrev pub AllMarks : List ℕ → Type 0
AllMarks [] = Unit {0}
AllMarks (mark ∷ marks) = ((mark == 48 || has_small mark) ≡ false) × AllMarks marks

pub marks_fit : (marks text : List ℕ) → AllMarks marks → fits marks text ≡ true → text ≡ marks
marks_fit [] [] a h = refl
marks_fit [] (b ∷ bs) a h = no_both false h refl
marks_fit (m ∷ ms) [] a h = no_both false h refl
marks_fit (m ∷ ms) (b ∷ bs) a h =
    let f = one (m == 48) (has_small m) a.0 (and_left (fits_one m b) (fits ms bs) h) in
    ap₂ ◌∷◌ (eqb-true b m f) (marks_fit ms bs a.1 (and_right (fits_one m b) (fits ms bs) h))
  where
    one : (d t : Bool) → (d || t) ≡ false → cond d (is_digit b) ((t && b == small m) || b == m) ≡ true → (b == m) ≡ true
    one true t n f = no_both true refl n
    one false true n f = no_both true refl n
    one false false n f = f

pub parts : (line : List ℕ) → is_cue_line line ≡ true → CueLine line (first_of line) (second_of line)
parts line h =
    let t = and_left (has_arrow line) _ h in
    let u = and_right (has_arrow line) _ h in
    let v = and_right (nat_lt (first_end line) (arrow_at line)) _ t in
    let front = drop (first_end line) line in
    let tail = drop (arrow_at line + 3) line in
    let m = run true front in
    let n = run true tail in
    let p = ltb-true (first_end line) (arrow_at line) (and_left (nat_lt (first_end line) (arrow_at line)) _ t) in
    let q = ltb-true (arrow_at line + 3) (second_at line) (and_right (fits arrow (take 3 (drop (arrow_at line) line))) _ v) in
    let three : drop (arrow_at line) line ≡ arrow ++ tail =
    sym (take-append-drop 3 (drop (arrow_at line) line))
    ∙ ap₂ ◌++◌ (marks_fit arrow (take 3 (drop (arrow_at line) line)) (refl, (refl, (refl, tt))) (and_left (fits arrow (take 3 (drop (arrow_at line) line))) _ v)) (drop-drop 3 (arrow_at line) line) in
    record {
      before = take m front;
      behind = take n tail;
      line_is = sym (take-append-drop (first_end line) line)
          ∙ ap (λ r. first_of line ++ r)
          (sym (take-append-drop m front)
          ∙ ap (λ r. take m front ++ r)
          (drop-drop m (first_end line) line ∙ three
          ∙ ap (λ r. arrow ++ r) (sym (take-append-drop n tail) ∙ ap (λ r. take n tail ++ r) (drop-drop n (arrow_at line + 3) line))));
      first_is = and_left (is_timestamp (first_of line)) _ u;
      blanks_before = run_blanks front (omega arith);
      blanks_behind = run_blanks tail (omega arith);
      second_is = and_right (is_timestamp (first_of line)) _ u;
    }

pub is_cue : (line first second : List ℕ) → CueLine line first second → is_cue_line line ≡ true
is_cue line first second c =
    let k = cuts_of line first second c in
    ap₂ ◌&&◌
    (ap₂ ◌&&◌ (lt-ltb (first_end line) (arrow_at line) k.gap_before) (ap₂ ◌&&◌ (ap (fits arrow) k.arrow_cut) (lt-ltb (arrow_at line + 3) (second_at line) k.gap_behind)))
    (ap₂ ◌&&◌ (ap is_timestamp k.first_cut ∙ c.first_is) (ap is_timestamp k.second_cut ∙ c.second_is))

pub timing_of : (line : List ℕ) → Timing line
timing_of line = go (is_cue_line line) refl
  where
    go : (t : Bool) → is_cue_line line ≡ t → Timing line
    go true e = between (first_of line) (second_of line) (parts line e)
    go false e = of_none (λ first second c. no_both (is_cue_line line) (is_cue line first second c) e)
