use Rattle.player_core.proofs.bench.Bench.load.Goals as goal

pub returns-clause-kept : goal.returns-clause-kept
returns-clause-kept g c = record {
  fits = c.keeping_lasts.ensures.fits _ _ _ _ c.load_place.ensures.kept c.load_place-2.ensures.kept c.requires.fits;
  left_kept = c.load_place.ensures.kept;
  right_kept = c.load_place-2.ensures.kept;
}
