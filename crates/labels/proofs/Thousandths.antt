-- Three decimals behind a mark, as the number of their values.
use Rattle.std.proofs.Common.{◌≡◌, ℕ, ◌+◌, ◌*◌, ◌/◌, ◌%◌, ◌^◌, ◌<◌, ◌≤◌, List, [], ◌∷◌, sym, ap, ◌∙◌, ap₂, arith, lit<}
use lib.Bits.{bit_and, and_block, and_mask}
use Rattle.text.specs.Words.{word}
use Rattle.labels.specs.Words.{number_of, Thousandths}
use Rattle.text.specs.Words.{AllLe}
use Rattle.text.proofs.Words.{byte_at}

decimals_are : (a b c : ℕ) → a ≤ 9 → b ≤ 9 → c ≤ 9 → number_of (word (0 ∷ a ∷ b ∷ c ∷ [])) 4 ≡ a * 100 + b * 10 + c
decimals_are a b c ha hb hc =
    let l : List ℕ = 0 ∷ a ∷ b ∷ c ∷ [] in
    let small : AllLe 255 l = omega arith in
    omega (arith, byte_at l 0 small, byte_at l 1 small, byte_at l 2 small, byte_at l 3 small)

product_is :
    (a b c : ℕ) → a ≤ 9 → b ≤ 9 → c ≤ 9 → {w : ℕ} → w ≡ word (0 ∷ a ∷ b ∷ c ∷ []) →
    bit_and (w * 10 + w / 256) 16711935 * 6553601 / 65536 % 65536 ≡ a * 100 + b * 10 + c
product_is a b c ha hb hc {w} e =
    let high = c * 10 * 256 + (b * 10 + c) in
    let low = (a * 10 + b) * 256 + a in
    let l : low < 65536 = omega arith in
    let pairs : w * 10 + w / 256 ≡ high * 65536 + low = omega arith in
    let h : high % 256 ≡ b * 10 + c = omega arith in
    let k : low % 256 ≡ a = omega arith in
    let masked : bit_and (w * 10 + w / 256) 16711935 ≡ (b * 10 + c) * 65536 + a =
    ap (λ n. bit_and n 16711935) pairs ∙ and_block 16 high 255 low 255 l (lit< tt)
    ∙ ap₂ (λ x y. x * 65536 + y) (and_mask high 8 ∙ h) (and_mask low 8 ∙ k) in
    ap (λ n. n * 6553601 / 65536 % 65536) masked ∙ times (b * 10 + c) a (omega arith) ha ∙ omega arith
  where
    times : (x a : ℕ) → x ≤ 99 → a ≤ 9 → (x * 65536 + a) * 6553601 / 65536 % 65536 ≡ a * 100 + x
    times x a h k =
        let q : (x * 65536 + a) * 6553601 / 65536 ≡ 6553601 * x + 100 * a = omega arith in
        ap (λ n. n % 65536) q ∙ omega arith

module _ {values : ℕ} (t : Thousandths values) where
  pub small_values : values < 2 ^ 28
  small_values = omega (arith, t.values_are, t.tenth_le, t.hundredth_le, t.thousandth_le)

  pub number_is : number_of values 4 ≡ t.tenth * 100 + t.hundredth * 10 + t.thousandth
  number_is = ap (λ v. number_of v 4) t.values_are ∙ decimals_are t.tenth t.hundredth t.thousandth t.tenth_le t.hundredth_le t.thousandth_le

  pub product_number : bit_and (values * 10 + values / 256) 16711935 * 6553601 / 65536 % 65536 ≡ number_of values 4
  product_number = product_is t.tenth t.hundredth t.thousandth t.tenth_le t.hundredth_le t.thousandth_le t.values_are ∙ sym number_is

  pub number_small : number_of values 4 < 1000
  number_small = omega (arith, number_is, t.tenth_le, t.hundredth_le, t.thousandth_le)
