-- Bytes of a text against those of a shape, each raised by a room that leaves its highest bit clear exactly if the byte is right.
use Rattle.std.proofs.Common.{◌≡◌, ℕ, zero, suc, ◌+◌, ◌-◌, ◌*◌, ◌/◌, ◌%◌, ◌^◌, ◌<◌, ◌≤◌, Bool, true, false, cond, eqb, List, [], ◌∷◌, length, get_or, replicate, sym, refl, ap, ◌∙◌, ap₂, arith, lit<}
use lib.Bits.{bit_and, bit_or, bit_xor, and_block, and_high, and_zero_l, and_le_l, and_le_r, or_add_and, xor_lt}
use Rattle.numbers.proofs.Bools.{no_both, and_left, and_right}
use Rattle.labels.specs.Digits.{fits_one, fits}
use Rattle.text.specs.Words.{word}
use Rattle.labels.specs.Words.{simple, room_one, rooms}
use Rattle.text.specs.Words.{AllLe}
use Rattle.text.proofs.Words.{word_le}
use Rattle.labels.proofs.OneByte.{value_near}
use Rattle.labels.proofs.Gaps.{gaps, Both, word_gaps, simple_low, simple_first, simple_rest, AllNear, near_nines}

-- ---- the highest bits of bytes

abbrev pub highest : ℕ
highest = word (replicate 8 128)

-- the highest bit of a byte
top : (y : ℕ) → bit_and y 128 ≡ y / 128 % 2 * 128
top y = and_high y 1 7

no_top : (y : ℕ) → y ≤ 127 → bit_and y 128 ≡ 0
no_top y h = top y ∙ omega arith

top_none : (y : ℕ) → y ≤ 255 → bit_and y 128 ≡ 0 → y ≤ 127
top_none y h e =
    let m : y / 128 % 2 ≡ y / 128 = omega arith in
    let z : y / 128 * 128 ≡ 0 = sym (ap (λ q. q * 128) m) ∙ sym (top y) ∙ e in
    omega (arith, z)

top_step :
    (n b : ℕ) (bs : List ℕ) → b ≤ 255 →
    bit_and (word (b ∷ bs)) (word (replicate (suc n) 128)) ≡ bit_and (word bs) (word (replicate n 128)) * 256 + bit_and b 128
top_step n b bs h = let l : b < 256 = omega arith in and_block 8 (word bs) (word (replicate n 128)) b 128 l (lit< tt)

-- both parts of a number in two parts are 0 where it is
no_part : (x y : ℕ) → x * 256 + y ≡ 0 → (x ≡ 0) × (y ≡ 0)
no_part x y e = (omega arith, omega arith)

pub low_clear : (l : List ℕ) (n : ℕ) → length l ≤ n → AllLe 127 l → bit_and (word l) (word (replicate n 128)) ≡ 0
low_clear [] n h a = and_zero_l (word (replicate n 128))
low_clear (b ∷ bs) zero h a = absurd (omega arith)
low_clear (b ∷ bs) (suc n) h a =
    let k = a.0 in
    top_step n b bs (omega arith) ∙ ap₂ (λ x y. x * 256 + y) (low_clear bs n (omega arith) a.1) (no_top b k)

pub clear_low : (l : List ℕ) (n : ℕ) → length l ≤ n → AllLe 255 l → bit_and (word l) (word (replicate n 128)) ≡ 0 → AllLe 127 l
clear_low [] n h a e = tt
clear_low (b ∷ bs) zero h a e = absurd (omega arith)
clear_low (b ∷ bs) (suc n) h a e =
    let z = no_part _ _ (sym (top_step n b bs a.0) ∙ e) in
    (top_none b a.0 z.1, clear_low bs n (omega arith) a.1 z.0)

-- bits that neither of two numbers has
pub or_none : (a b : ℕ) → bit_or a b ≡ 0 → (a ≡ 0) × (b ≡ 0)
or_none a b e = (omega (arith, e, or_add_and a b, and_le_r a b), omega (arith, e, or_add_and a b, and_le_l a b))

-- ---- raised bytes

abbrev pub raised : (rooms l : List ℕ) → List ℕ
raised [] l = l
raised (r ∷ rooms) [] = []
raised (r ∷ rooms) (x ∷ l) = (x + r) ∷ raised rooms l

word_raised : (rooms l : List ℕ) → length rooms ≡ length l → word l + word rooms ≡ word (raised rooms l)
word_raised [] l e = omega arith
word_raised (r ∷ rooms) [] e = absurd (omega arith)
word_raised (r ∷ rooms) (x ∷ l) e = let h = word_raised rooms l (omega arith) in omega arith

raised_length : (rooms l : List ℕ) → length (raised rooms l) ≤ length l
raised_length [] l = omega arith
raised_length (r ∷ rooms) [] = omega arith
raised_length (r ∷ rooms) (x ∷ l) = let h = raised_length rooms l in omega arith

raised_le : (rooms l : List ℕ) → AllLe 127 rooms → AllLe 127 l → AllLe 255 (raised rooms l)
raised_le [] [] a b = tt
raised_le [] (x ∷ l) a b = let h = b.0 in (omega arith, raised_le [] l a b.1)
raised_le (r ∷ rooms) [] a b = tt
raised_le (r ∷ rooms) (x ∷ l) a b = let h = a.0 in let k = b.0 in (omega arith, raised_le rooms l a.1 b.1)

-- ---- a text of at most eight bytes, held against a shape

gaps_low : (shape text : List ℕ) → AllLe 127 shape → AllLe 127 text → AllLe 127 (gaps shape text)
gaps_low [] text a b = tt
gaps_low (s ∷ ss) [] a b = tt
gaps_low (s ∷ ss) (x ∷ xs) a b =
    let h : x < 128 = omega (arith, b.0) in
    let k : s < 128 = omega (arith, a.0) in
    (omega (arith, xor_lt 7 x s h k), gaps_low ss xs a.1 b.1)

pub gaps_size : (shape text : List ℕ) → length shape ≡ length text → length (gaps shape text) ≡ length text
gaps_size [] [] e = refl
gaps_size [] (x ∷ xs) e = absurd (omega arith)
gaps_size (s ∷ ss) [] e = refl
gaps_size (s ∷ ss) (x ∷ xs) e = ap suc (gaps_size ss xs (omega arith))

pub record Held (shape rooms text : List ℕ) (n : ℕ) : Type 0 where
  pub is_text : n ≡ word text
  pub both : Both shape text
  pub short : length text ≤ 8
  pub shape_low : AllLe 127 shape
  pub rooms_low : AllLe 127 rooms
  pub rooms_size : length rooms ≡ length text

module _ {shape rooms text : List ℕ} {n : ℕ} (h : Held shape rooms text n) where
  -- no byte has its highest bit
  pub low_text : bit_and n highest ≡ 0 → AllLe 127 text
  low_text e = clear_low text 8 h.short h.both.1.1 (sym (ap (λ n. bit_and n highest) h.is_text) ∙ e)

  pub text_clear : AllLe 127 text → bit_and n highest ≡ 0
  text_clear a = ap (λ n. bit_and n highest) h.is_text ∙ low_clear text 8 h.short a

  pub gap_word : bit_xor n (word shape) ≡ word (gaps shape text)
  gap_word = ap (λ n. bit_xor n (word shape)) h.is_text ∙ word_gaps shape text h.both

  sizes : length (gaps shape text) ≡ length text
  sizes = gaps_size shape text h.both.0

  sum_word : bit_xor n (word shape) + word rooms ≡ word (raised rooms (gaps shape text))
  sum_word = ap (λ g. g + word rooms) gap_word ∙ word_raised rooms (gaps shape text) (h.rooms_size ∙ sym sizes)

  few : length (raised rooms (gaps shape text)) ≤ 8
  few = omega (arith, raised_length rooms (gaps shape text), sizes, h.short)

  module _ (low : AllLe 127 text) where
    sum_le : AllLe 255 (raised rooms (gaps shape text))
    sum_le = raised_le rooms (gaps shape text) h.rooms_low (gaps_low shape text h.shape_low low)

    pub sum_below : bit_xor n (word shape) + word rooms < 2 ^ 64
    sum_below = omega (arith, sum_word, word_le 255 (raised rooms (gaps shape text)) 8 few sum_le)

    pub roomy : bit_and (bit_xor n (word shape) + word rooms) highest ≡ 0 → AllLe 127 (raised rooms (gaps shape text))
    roomy e = clear_low (raised rooms (gaps shape text)) 8 few sum_le (sym (ap (λ s. bit_and s highest) sum_word) ∙ e)

  pub room_clear : AllLe 127 (raised rooms (gaps shape text)) → bit_and (bit_xor n (word shape) + word rooms) highest ≡ 0
  room_clear a = ap (λ s. bit_and s highest) sum_word ∙ low_clear (raised rooms (gaps shape text)) 8 few a

-- ---- a text that fits a shape without T and Z

pub fits_low : (shape text : List ℕ) → simple shape ≡ true → fits shape text ≡ true → AllLe 127 text
fits_low [] [] p f = tt
fits_low [] (b ∷ bs) p f = no_both false f refl
fits_low (s ∷ ss) [] p f = no_both false f refl
fits_low (s ∷ ss) (b ∷ bs) p f =
    let h = (simple_low (s ∷ ss) p).0 in
    let k = (near_nines (s ∷ []) ((b - s) ∷ []) (omega arith) (value_near s b (simple_first s ss p) (and_left (fits_one s b) (fits ss bs) f), tt)).0 in
    (omega arith, fits_low ss bs (simple_rest s ss p) (and_right (fits_one s b) (fits ss bs) f))

pub room_at : (shape : List ℕ) (i : ℕ) → i < length shape → get_or (rooms shape) i 0 ≡ room_one (get_or shape i 0)
room_at [] i h = absurd (omega arith)
room_at (s ∷ ss) zero h = refl
room_at (s ∷ ss) (suc i) h = room_at ss i (omega arith)

-- the room of each byte of a shape: values are near exactly if none is raised above 127
pub rooms_le : (shape : List ℕ) → AllLe 127 (rooms shape)
rooms_le [] = tt
rooms_le (s ∷ ss) = (go (eqb s 48), rooms_le ss)
  where
    go : (d : Bool) → cond d 118 127 ≤ 127
    go true = omega arith
    go false = omega arith

pub near_roomy : (shape l : List ℕ) → length shape ≡ length l → AllNear shape l → AllLe 127 (raised (rooms shape) l)
near_roomy [] [] e n = tt
near_roomy [] (x ∷ l) e n = absurd (omega arith)
near_roomy (s ∷ ss) [] e n = tt
near_roomy (s ∷ ss) (x ∷ l) e n = (go (eqb s 48) n.0, near_roomy ss l (omega arith) n.1)
  where
    go : (d : Bool) → x ≤ cond d 9 0 → x + cond d 118 127 ≤ 127
    go true h = omega arith
    go false h = omega arith

pub roomy_near : (shape l : List ℕ) → AllLe 127 (raised (rooms shape) l) → AllNear shape l
roomy_near [] l a = tt
roomy_near (s ∷ ss) [] a = tt
roomy_near (s ∷ ss) (x ∷ l) a = (go (eqb s 48) a.0, roomy_near ss l a.1)
  where
    go : (d : Bool) → x + cond d 118 127 ≤ 127 → x ≤ cond d 9 0
    go true h = omega arith
    go false h = omega arith
