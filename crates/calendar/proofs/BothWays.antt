-- Document 02, request Two: the two ways to a month's length are equal, of each month and in leap and common years.
use mathlib.Core.Path.{◌≡◌, sym, ◌∙◌}
use base.Logic.{SProp, ent}
use types.Logic.{Logic}
use contract.Conj.{conj, conj_l, conj_r}
use contract.Fact.{fact, fact_i, fact_use}
use contract.Running.{Running}
use denote.Triple.Clauses.{AtExit}
use denote.Triple.Entry.{Args}
use denote.Triple.Spec.{Meets}
use seplogic.Ra.Ura.{Ura}
use prog.Model.{Model}
use prog.Wired.{Wired}
use Rattle.std.specs.Prelude.{ℤ, Result}
use Rattle.refusal.specs.Outcome.{outcome}
use Rattle.refusal.specs.declared.Refusal.{Refusal}
use Rattle.calendar.specs.Checked.{length_answer}
use Rattle.calendar.specs.Closed.{leap_day}
use Rattle.calendar.specs.contracts.length_by_bits.month_length as bits
use Rattle.calendar.proofs.length_by_bits.month_length.Met as bits_met
use Rattle.calendar.proofs.length_by_bits.month_length.Symbol as bits_symbol
use Rattle.calendar.specs.contracts.length_by_match.month_length as match
use Rattle.calendar.proofs.length_by_match.month_length.Met as match_met
use Rattle.calendar.proofs.length_by_match.month_length.Symbol as match_symbol

module _ {M : Type 1} {𝓤 : Ura M} (𝓛 : Logic 𝓤) (𝓜 : Model 𝓤 𝓛.H) (𝓡 : Running 𝓤 𝓛.H 𝓜) where
  -- what the `ensures` of each says of its answer to a year and a month
  abbrev bits_says : Args bits.signature tt → AtExit bits.ended tt → Result ℤ Refusal → SProp 𝓤
  bits_says given end answer = (bits.clauses 𝓛 𝓜.mem 𝓡.returns tt given).ensures tt answer end

  abbrev match_says : Args match.signature tt → AtExit match.ended tt → Result ℤ Refusal → SProp 𝓤
  match_says given end answer = (match.clauses 𝓛 𝓜.mem 𝓡.returns tt given).ensures tt answer end

  -- to the same year and month both answer the same number or the same refusal; and the code of each meets the contract of the other
  pub record Equal : Type 2 where
    pub same_answer :
        (given : Args bits.signature tt) (end : AtExit bits.ended tt) (r s : Result ℤ Refusal) →
        ent 𝓤 (conj 𝓤 (bits_says given end r) (match_says given end s)) (fact 𝓤 (outcome r ≡ outcome s))
    pub bits_meets : Wired 𝓡.env bits_symbol.code → Meets 𝓛 bits.signature (𝓡.run (𝓡.env bits_symbol.name)) (match.spec 𝓛 𝓜.mem 𝓡.returns)
    pub match_meets : Wired 𝓡.env match_symbol.code → Meets 𝓛 match.signature (𝓡.run (𝓡.env match_symbol.name)) (bits.spec 𝓛 𝓜.mem 𝓡.returns)

  pub both_ways : Equal
  both_ways = record {
    same_answer = λ given end r s.
        let says-bits = bits_says given end r in
        let says-match = match_says given end s in
        let answer = length_answer (leap_day given.0) given.1.0 in
        fact_use 𝓤 (outcome r ≡ answer) (conj_l 𝓤 says-bits says-match) (λ p.
        fact_use 𝓤 (outcome s ≡ answer) (conj_r 𝓤 says-bits says-match) (λ q.
        fact_i 𝓤 (outcome r ≡ outcome s) (conj 𝓤 says-bits says-match) (p ∙ sym q)));
    bits_meets = bits_met.met 𝓤 𝓛 𝓜 𝓡;
    match_meets = match_met.met 𝓤 𝓛 𝓜 𝓡;
  }
