-- What the code makes of a timestamp.
use Rattle.std.proofs.Common.{◌≡◌, ℕ, ◌<◌, ◌≤◌, Bool, true, false, cond, List, pos, nat_abs, sym, refl, ap, ◌∙◌, ap₂, arith}
use Rattle.refusal.specs.Outcome.{Outcome, value, refused}
use Rattle.refusal.proofs.Outcomes.{clash, same_value}
use Rattle.numbers.specs.Range.{outside}
use Rattle.numbers.proofs.Between.{natural_within, inside_pos}
use Rattle.labels.specs.Webvtt.{last_position}
use Rattle.labels.specs.Timestamps.{is_timestamp, position_of, position_answer}
use Rattle.labels.specs.Stamps.{above_limit, limited, stamp_of}

-- what is made of a text, by whether it is a timestamp and whether its position is outside the range
abbrev decided : (text : List ℕ) (t o : Bool) → Outcome ℕ
decided text t o = cond t (value (cond o above_limit (position_of text))) (refused 13)

abbrev is_outside : (text : List ℕ) → Bool
is_outside text = outside (pos 0) last_position (pos (position_of text))

-- a refusal is no value, and has one number
pub no_value : {G : Type 0} {k n : ℕ} → ◌≡◌ {A = Outcome ℕ} (refused k) (value n) → G
no_value e = clash (cc)

pub same_refusal : {k n : ℕ} → ◌≡◌ {A = Outcome ℕ} (refused k) (refused n) → k ≡ n
same_refusal e = cc

-- a text that is no timestamp
pub no_stamp : (text : List ℕ) → (is_timestamp text ≡ true → ⊥) → refused 13 ≡ stamp_of text
unfolding stamp_of
no_stamp text never = go (is_timestamp text) refl
  where
    go : (t : Bool) → is_timestamp text ≡ t → refused 13 ≡ decided text t (is_outside text)
    go true e = absurd (never e)
    go false e = refl

-- a timestamp up to the limit
pub is_stamp : (text : List ℕ) → is_timestamp text ≡ true → position_of text ≤ nat_abs last_position → value (position_of text) ≡ stamp_of text
unfolding stamp_of
is_stamp text t h = sym (ap₂ (decided text) t (inside_pos 0 (nat_abs last_position) (position_of text) (omega arith) h))

-- a timestamp's position, from whether it is one and from its position
pub stamp_same : (a b : List ℕ) → is_timestamp a ≡ is_timestamp b → position_of a ≡ position_of b → stamp_of a ≡ stamp_of b
unfolding stamp_of
stamp_same a b t p = ap₂ (λ t p. cond t (value (limited p)) (refused 13)) t p

-- no timestamp, or one above the limit, or one in the range
pub by_stamp :
    {G : Type 0} (text : List ℕ) → (is_timestamp text ≡ false → stamp_of text ≡ refused 13 → G) →
    (is_timestamp text ≡ true → is_outside text ≡ true → stamp_of text ≡ value above_limit → G) →
    (is_timestamp text ≡ true → is_outside text ≡ false → stamp_of text ≡ value (position_of text) → position_of text ≤ nat_abs last_position → G) → G
unfolding stamp_of
by_stamp {G} text none_there high given = go (is_timestamp text) (is_outside text) refl refl
  where
    go : (t o : Bool) → is_timestamp text ≡ t → is_outside text ≡ o → G
    go false o e f = none_there e (ap (λ t. decided text t (is_outside text)) e)
    go true true e f = high e f (ap₂ (decided text) e f)
    go true false e f = given e f (ap₂ (decided text) e f) (natural_within 0 last_position (pos (position_of text)) f).high

-- ---- what it tells of the position

module _ (text : List ℕ) where
  pub refused_stamp : {k : ℕ} → refused k ≡ stamp_of text → (k ≡ 13) × (is_timestamp text ≡ false)
  refused_stamp {k} e =
      by_stamp text (λ t s. (same_refusal (e ∙ s), t)) (λ t o s. no_value (e ∙ s)) (λ t o s l. no_value (e ∙ s))

  module _ {n : ℕ} (e : value n ≡ stamp_of text) where
    pub stamp_there : is_timestamp text ≡ true
    stamp_there = by_stamp text (λ t s. no_value (sym (e ∙ s))) (λ t o s. t) (λ t o s l. t)

    pub answer_beyond : nat_abs last_position < n → refused 6 ≡ position_answer text
    unfolding position_answer
    answer_beyond h =
        by_stamp text (λ t s. no_value (sym (e ∙ s)))
        (λ t o s. sym (ap₂ (λ t o. cond t (cond o (refused 6) (value (pos (position_of text)))) (refused 13)) t o))
        (λ t o s l. absurd (omega (arith, same_value (e ∙ s), h, l)))

    pub answer_value : n ≤ nat_abs last_position → value (pos n) ≡ position_answer text
    unfolding position_answer
    answer_value h =
        by_stamp text (λ t s. no_value (sym (e ∙ s))) (λ t o s. absurd (omega (arith, same_value (e ∙ s), h)))
        (λ t o s l. ap (λ n. value (pos n)) (same_value (e ∙ s))
        ∙ sym (ap₂ (λ t o. cond t (cond o (refused 6) (value (pos (position_of text)))) (refused 13)) t o))

  pub answer_refused : {k : ℕ} → refused k ≡ stamp_of text → refused k ≡ position_answer text
  unfolding position_answer
  answer_refused e =
      let r = refused_stamp e in
      ap refused r.0 ∙ sym (ap (λ t. cond t (cond (is_outside text) (refused 6) (value (pos (position_of text)))) (refused 13)) r.1)
