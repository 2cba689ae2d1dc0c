-- Entries of one noise.
use Rattle.std.proofs.Common.{◌≡◌, List, [], ◌∷◌, ◌++◌}
use Rattle.std.proofs.lemmas.List.Elements.{All-push}
use Rattle.history_model.specs.Noise.{FlipRate}
use Rattle.lab_file.specs.declared.lab.Entry.{Entry}
use Rattle.lab_file.specs.Lab.{HaveNoise}

pub noise_pushed : (noise : FlipRate) (entries pushed : List Entry) (entry : Entry) → pushed ≡ entries ++ entry ∷ [] → HaveNoise noise entries → entry.noise ≡ noise
    → HaveNoise noise pushed
noise_pushed noise entries pushed entry is have own = rw is (All-push (λ (each : Entry). each.noise ≡ noise) entries entry have own)
