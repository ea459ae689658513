-- What a refusal prints: its number, and behind `at` the number that it hands back, as that prints.
use Rattle.std.specs.Prelude.{ℕ, List, ◌++◌, Option, Some, codes}
use Rattle.std.specs.Option.{option_map}
use Rattle.std.specs.Fmt.{decimal}
use Rattle.refusal.specs.Numbers.{refusal_number}
use Rattle.refusal.specs.declared.Refusal.{Refusal}
use Rattle.refusal.specs.declared.RefusalAt.{RefusalAt}
use Rattle.refusal.specs.declared.RefusalAt.TheVariants.{Alone, At}

abbrev pub refusal_text : Refusal → List ℕ
refusal_text why = decimal (refusal_number why)

abbrev pub refusal_at_text : {N : Type 0} → (N → Option (List ℕ)) → RefusalAt N → Option (List ℕ)
refusal_at_text number_text (Alone why) = Some (refusal_text why)
refusal_at_text number_text (At why n) = option_map (λ text. refusal_text why ++ codes " at " ++ text) (number_text n)
