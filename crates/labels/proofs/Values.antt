-- The test of the code finds out whether two texts have their shapes.
use Rattle.std.proofs.Common.{◌≡◌, ℕ, ◌+◌, ◌%◌, ◌^◌, ◌<◌, Bool, true, false, cond, ◌&&◌, List, length, sym, refl, ap, ◌∙◌, subst, ap₂, mod-eq_of_lt, arith}
use lib.Bits.{bit_and, bit_or, bit_xor}
use lib.ListN.{length-map}
use Rattle.refusal.specs.Outcome.{value, refused}
use Rattle.labels.specs.Digits.{fits}
use Rattle.text.specs.Words.{word}
use Rattle.labels.specs.Words.{room_one, rooms, OneWord, above, text_of, read_values}
use Rattle.std.proofs.lemmas.Nat.Bits.{bit_at_and, bit_at_or, same_from_bits}
use Rattle.text.proofs.Words.{lower, length_bytes, bytes_le, word_bytes}
use Rattle.labels.proofs.Gaps.{gaps, simple_low, AllNear, all_near, gaps_are, near_all_fit}
use Rattle.labels.proofs.ReadValues.{values, refused_8}
use Rattle.labels.proofs.Rooms.{highest, Held, or_none, low_text, text_clear, gap_word, gaps_size, sum_below, roomy, room_clear, fits_low, rooms_le, near_roomy, roomy_near}

-- ---- one text

module _ (shape : List ℕ) (n : ℕ) (w : OneWord shape n) where
  abbrev text : List ℕ
  text = text_of shape n

  size : length text ≡ length shape
  size = length_bytes (length shape) n

  held : Held shape (rooms shape) text n
  held = record {
    is_text = sym (word_bytes (length shape) n w.1.1);
    both = (sym size, (lower 118 255 shape (omega arith) (simple_low shape w.1.0), bytes_le (length shape) n));
    short = omega (arith, size, w.0);
    shape_low = lower 118 127 shape (omega arith) (simple_low shape w.1.0);
    rooms_low = rooms_le shape;
    rooms_size = length-map shape room_one ∙ sym size;
  }

  -- the number that each byte of the text is raised in
  abbrev sum : ℕ
  sum = bit_xor n (word shape) + word (rooms shape)

  pub sum_small : {a b : ℕ} → a ≡ word shape → b ≡ word (rooms shape) → bit_and n highest ≡ 0 → bit_xor n a + b < 2 ^ 64
  sum_small p q e = subst (λ n. n < 2 ^ 64) (sym (ap₂ (λ a b. bit_xor n a + b) p q)) (sum_below held (low_text held e))

  pub value_is : fits shape text ≡ true → bit_xor n (word shape) ≡ word (above shape text)
  value_is f = gap_word held ∙ ap word (gaps_are shape text w.1.0 f)

  clear_bytes : fits shape text ≡ true → bit_and n highest ≡ 0
  clear_bytes f = text_clear held (fits_low shape text w.1.0 f)

  clear_sum : fits shape text ≡ true → bit_and sum highest ≡ 0
  clear_sum f =
      let p = w.1.0 in
      room_clear held
      (near_roomy shape (gaps shape text) (sym (gaps_size shape text (sym size) ∙ size)) (subst (AllNear shape) (sym (gaps_are shape text p f)) (all_near shape text p f)))

  fits_if : bit_and n highest ≡ 0 → bit_and sum highest ≡ 0 → fits shape text ≡ true
  fits_if e f = near_all_fit shape text w.1.0 (sym size) (roomy_near shape (gaps shape text) (roomy held (low_text held e) f))

-- ---- two texts

-- one test for all bits is a test for each
or_and : (a b m : ℕ) → bit_and (bit_or a b) m ≡ bit_or (bit_and a m) (bit_and b m)
or_and a b m =
    same_from_bits (bit_and (bit_or a b) m) (bit_or (bit_and a m) (bit_and b m))
    (λ i. omega (arith, bit_at_and (bit_or a b) m i, bit_at_or a b i, bit_at_or (bit_and a m) (bit_and b m) i, bit_at_and a m i, bit_at_and b m i))

module _ (shape : List ℕ) (m : ℕ) (other : List ℕ) (n : ℕ) (v : OneWord shape m) (w : OneWord other n) where
  unless : (fits shape (text_of shape m) ≡ true → fits other (text_of other n) ≡ true → ⊥) → refused 8 ≡ read_values shape m other n
  unless never = go (fits shape (text_of shape m)) (fits other (text_of other n)) refl refl
    where
      go : (a b : Bool) → fits shape (text_of shape m) ≡ a → fits other (text_of other n) ≡ b →
          refused_8 ≡ cond (a && b) (value (word (above shape (text_of shape m)), word (above other (text_of other n)))) refused_8
      go true true e f = absurd (never e f)
      go true false e f = refl
      go false b e f = refl

  -- the code has made the numbers of the shapes and of their rooms, and the sums, which may have wrapped
  module _ {a b x y s t : ℕ} (ea : a ≡ word shape) (eb : b ≡ word other) (ex : x ≡ word (rooms shape)) (ey : y ≡ word (rooms other))
      (es : s ≡ (bit_xor m a + x) % 2 ^ 64) (et : t ≡ (bit_xor n b + y) % 2 ^ 64) where
    -- they have not where no byte has its highest bit
    first_sum : bit_and m highest ≡ 0 → s ≡ sum shape m v
    first_sum e = es ∙ mod-eq_of_lt (sum_small shape m v ea ex e) ∙ ap₂ (λ a x. bit_xor m a + x) ea ex

    second_sum : bit_and n highest ≡ 0 → t ≡ sum other n w
    second_sum e = et ∙ mod-eq_of_lt (sum_small other n w eb ey e) ∙ ap₂ (λ b y. bit_xor n b + y) eb ey

    abbrev tested : ℕ
    tested = bit_and (bit_or (bit_or (bit_or m n) s) t) highest

    each : tested ≡ bit_or (bit_or (bit_or (bit_and m highest) (bit_and n highest)) (bit_and s highest)) (bit_and t highest)
    each =
        or_and (bit_or (bit_or m n) s) t highest
        ∙ ap (λ x. bit_or x (bit_and t highest))
        (or_and (bit_or m n) s highest ∙ ap (λ x. bit_or x (bit_and s highest)) (or_and m n highest))

    pub one_is_wrong : (tested ≡ 0 → ⊥) → refused 8 ≡ read_values shape m other n
    one_is_wrong never =
        unless (λ f g.
        let p = clear_bytes shape m v f in
        let q = clear_bytes other n w g in
        let c = ap (λ s. bit_and s highest) (first_sum p) ∙ clear_sum shape m v f in
        let d = ap (λ t. bit_and t highest) (second_sum q) ∙ clear_sum other n w g in
        never (each ∙ (λ i. bit_or (bit_or (bit_or (p i) (q i)) (c i)) (d i))))

    pub both_are_right : tested ≡ 0 → value (bit_xor m a, bit_xor n b) ≡ read_values shape m other n
    both_are_right e =
        let d = or_none (bit_or (bit_or (bit_and m highest) (bit_and n highest)) (bit_and s highest)) (bit_and t highest) (sym each ∙ e) in
        let c = or_none (bit_or (bit_and m highest) (bit_and n highest)) (bit_and s highest) d.0 in
        let k = or_none (bit_and m highest) (bit_and n highest) c.0 in
        let f = fits_if shape m v k.0 (ap (λ s. bit_and s highest) (sym (first_sum k.0)) ∙ c.1) in
        let g = fits_if other n w k.1 (ap (λ t. bit_and t highest) (sym (second_sum k.1)) ∙ d.1) in
        ap₂ (λ a b. values (bit_xor m a) (bit_xor n b)) ea eb
        ∙ ap₂ values (value_is shape m v f) (value_is other n w g)
        ∙ sym (ap (λ t. cond t (value (word (above shape (text_of shape m)), word (above other (text_of other n)))) refused_8) (ap₂ ◌&&◌ f g))
