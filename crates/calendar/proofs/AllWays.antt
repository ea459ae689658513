-- Document 02, request Ten: the ways from a count to a date are equal on every count, those outside the range too.
use mathlib.Core.Path.{◌≡◌, sym, ◌∙◌}
use base.Logic.{SProp, ent}
use types.Logic.{Logic}
use contract.Conj.{conj, conj_l, conj_r}
use contract.Fact.{fact, fact_i, fact_use}
use contract.Running.{Running}
use denote.Triple.Clauses.{AtExit}
use denote.Triple.Entry.{Args}
use denote.Triple.Spec.{Meets}
use seplogic.Ra.Ura.{Ura}
use prog.Model.{Model}
use prog.Wired.{Wired}
use Rattle.std.specs.Prelude.{Result}
use Rattle.refusal.specs.Outcome.{Outcome, outcome}
use Rattle.refusal.specs.declared.Refusal.{Refusal}
use Rattle.calendar.specs.declared.Date.{Date}
use Rattle.calendar.specs.Answers.{civil_answer}
use Rattle.calendar.specs.contracts.civil_from_days as fast
use Rattle.calendar.proofs.civil_from_days.Met as fast_met
use Rattle.calendar.proofs.civil_from_days.Symbol as fast_symbol
use Rattle.calendar.specs.contracts.plain.civil_from_days as plain
use Rattle.calendar.proofs.plain.civil_from_days.Met as plain_met
use Rattle.calendar.proofs.plain.civil_from_days.Symbol as plain_symbol
use Rattle.calendar.specs.contracts.audit.civil_from_days as audit
use Rattle.calendar.proofs.audit.civil_from_days.Met as audit_met
use Rattle.calendar.proofs.audit.civil_from_days.Symbol as audit_symbol
use Rattle.calendar.specs.contracts.month_table.civil_from_days as table
use Rattle.calendar.proofs.month_table.civil_from_days.Met as table_met
use Rattle.calendar.proofs.month_table.civil_from_days.Symbol as table_symbol

module _ {M : Type 1} {𝓤 : Ura M} (𝓛 : Logic 𝓤) (𝓜 : Model 𝓤 𝓛.H) (𝓡 : Running 𝓤 𝓛.H 𝓜) where
  -- what the `ensures` of each says of its answer to a count
  abbrev fast_says : Args fast.signature tt → AtExit fast.ended tt → Result Date Refusal → SProp 𝓤
  fast_says given end answer = (fast.clauses 𝓛 𝓜.mem 𝓡.returns tt given).ensures tt answer end

  abbrev plain_says : Args plain.signature tt → AtExit plain.ended tt → Result Date Refusal → SProp 𝓤
  plain_says given end answer = (plain.clauses 𝓛 𝓜.mem 𝓡.returns tt given).ensures tt answer end

  abbrev audit_says : Args audit.signature tt → AtExit audit.ended tt → Result Date Refusal → SProp 𝓤
  audit_says given end answer = (audit.clauses 𝓛 𝓜.mem 𝓡.returns tt given).ensures tt answer end

  abbrev table_says : Args table.signature tt → AtExit table.ended tt → Result Date Refusal → SProp 𝓤
  table_says given end answer = (table.clauses 𝓛 𝓜.mem 𝓡.returns tt given).ensures tt answer end

  -- two answers that are each the one that is defined
  same : (answer r s : Outcome Date) → ent 𝓤 (conj 𝓤 (fact 𝓤 (r ≡ answer)) (fact 𝓤 (s ≡ answer))) (fact 𝓤 (r ≡ s))
  same answer r s =
      let first = fact 𝓤 (r ≡ answer) in
      let second = fact 𝓤 (s ≡ answer) in
      fact_use 𝓤 (r ≡ answer) (conj_l 𝓤 first second) (λ p.
      fact_use 𝓤 (s ≡ answer) (conj_r 𝓤 first second) (λ q.
      fact_i 𝓤 (r ≡ s) (conj 𝓤 first second) (p ∙ sym q)))

  -- to the same count each answers the same date or the same refusal as the fast way; the code of each meets the contract of the fast
  -- way, and the fast code that of the plain one
  pub record Equal : Type 2 where
    pub plain_same :
        (given : Args fast.signature tt) (end : AtExit fast.ended tt) (r s : Result Date Refusal) →
        ent 𝓤 (conj 𝓤 (fast_says given end r) (plain_says given end s)) (fact 𝓤 (outcome r ≡ outcome s))
    pub audit_same :
        (given : Args fast.signature tt) (end : AtExit fast.ended tt) (r s : Result Date Refusal) →
        ent 𝓤 (conj 𝓤 (fast_says given end r) (audit_says given end s)) (fact 𝓤 (outcome r ≡ outcome s))
    pub table_same :
        (given : Args fast.signature tt) (end : AtExit fast.ended tt) (r s : Result Date Refusal) →
        ent 𝓤 (conj 𝓤 (fast_says given end r) (table_says given end s)) (fact 𝓤 (outcome r ≡ outcome s))
    pub fast_meets : Wired 𝓡.env fast_symbol.code → Meets 𝓛 fast.signature (𝓡.run (𝓡.env fast_symbol.name)) (plain.spec 𝓛 𝓜.mem 𝓡.returns)
    pub plain_meets : Wired 𝓡.env plain_symbol.code → Meets 𝓛 plain.signature (𝓡.run (𝓡.env plain_symbol.name)) (fast.spec 𝓛 𝓜.mem 𝓡.returns)
    pub audit_meets : Wired 𝓡.env audit_symbol.code → Meets 𝓛 audit.signature (𝓡.run (𝓡.env audit_symbol.name)) (fast.spec 𝓛 𝓜.mem 𝓡.returns)
    pub table_meets : Wired 𝓡.env table_symbol.code → Meets 𝓛 table.signature (𝓡.run (𝓡.env table_symbol.name)) (fast.spec 𝓛 𝓜.mem 𝓡.returns)

  pub all_ways : Equal
  all_ways = record {
    plain_same = λ given end r s. same (civil_answer given.0) (outcome r) (outcome s);
    audit_same = λ given end r s. same (civil_answer given.0) (outcome r) (outcome s);
    table_same = λ given end r s. same (civil_answer given.0) (outcome r) (outcome s);
    fast_meets = fast_met.met 𝓤 𝓛 𝓜 𝓡;
    plain_meets = plain_met.met 𝓤 𝓛 𝓜 𝓡;
    audit_meets = audit_met.met 𝓤 𝓛 𝓜 𝓡;
    table_meets = table_met.met 𝓤 𝓛 𝓜 𝓡;
  }
