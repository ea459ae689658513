use Rattle.std.proofs.Common.{◌≡◌, ◌+◌, ◌-◌, ap, ◌∙◌, arith, drop, take, length, take_all, length-drop, rules}
use borrow.Author.Tests.{tests}
use Rattle.std.proofs.lemmas.Iterator.{YieldsList-from_slice}
use Rattle.std.proofs.lemmas.Iterator.Search.{position_from_yields_List}
use Rattle.labels.specs.Timings.{run, run_le}
use Rattle.labels.proofs.CueRuns.{other, run_found}
use Rattle.labels.proofs.cue.run_end.Goals as goal

pub returns : goal.returns
returns c =
    let a = c.args in
    let line = a.line.now in
    let rest = take (length line - a.«from») (drop a.«from» line) in
    let e = position_from_yields_List (other a.blank) _ _ c.position.result c.position.ensures.ran (YieldsList-from_slice rest (search rules))
    (λ x b q k. search (rules, tests)) in
    let s : c.unwrap_or.result ≡ run a.blank (drop a.«from» line) =
    c.unwrap_or.ensures ∙ run_found a.blank rest c.position.result e
    ∙ ap (run a.blank) (take_all (length line - a.«from») (drop a.«from» line) (omega (arith, length-drop a.«from» line))) in
    (ap (λ n. a.«from» + n) s, omega (arith, s, run_le a.blank (drop a.«from» line), length-drop a.«from» line))
