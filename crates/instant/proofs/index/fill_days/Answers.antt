use Rattle.std.proofs.Common.{◌/◌, ◌<◌, length, arith, rules, ◌∙◌}
use Rattle.std.proofs.lemmas.Grind.{common_steps}
use Rattle.instant.proofs.Chunks.{chunk_fits, chunk_long}
use Rattle.instant.proofs.Blocks.{chunk_in_range, chunk_never_falls}
use Rattle.instant.proofs.index.fill_days.Goals as goal

pub fill_block-requires : goal.fill_block-requires
fill_block-requires c =
    let i = c.loop-i.i in
    let s = c.args.instants.now in
    let here : i < length s / 16 = search rules in
    let fits = chunk_fits 16 s i here in
    rw c.as_chunks.ensures.front (
      chunk_long 16 s i here ∙ grind (arith, common_steps),
      (chunk_in_range 16 s i here c.requires.1.0, chunk_never_falls 16 s i here c.requires.1.1),
    )
