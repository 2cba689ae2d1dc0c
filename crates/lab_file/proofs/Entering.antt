-- One entry more of an array of tables.
use Rattle.std.proofs.Common.{◌≡◌, ℕ, suc, ◌+◌, ◌<◌, List, [], ◌∷◌, ◌++◌, length, drop, get_or, Ok, sym, ◌∙◌, ap, add-one, drop-cons}
use Rattle.toml.specs.declared.value.Value.{Value}
use Rattle.toml.specs.Data.{Members}
use Rattle.toml.specs.View.{view, items_view}
use Rattle.history_model.specs.Noise.{FlipRate}
use Rattle.player_core.specs.declared.bench.PlugNote.{PlugNote}
use Rattle.refusals.specs.declared.place.Place.{Place}
use Rattle.refusals.specs.declared.place.KeyName.TheVariants as key
use Rattle.lab_keys.specs.Keys.{table_of}
use Rattle.refusals.specs.Refusing.{◌>>=◌}
use Rattle.lab_file.specs.declared.lab.Entry.{Entry}
use Rattle.job_tables.specs.JobsOf.{top}
use Rattle.lab_file.specs.LabOf.{entry_of, entries_from}

from_here : (values : List Value) (i : ℕ) (value : Value) → i < length values → value ≡ get_or values i value → drop i values ≡ value ∷ drop (i + 1) values
from_here values i value inside is = rw (add-one i, drop-cons values i value) (ap (λ v. v ∷ drop (suc i) values) (sym is))

pub next_entry : (notes : List PlugNote) (version : ℕ) (noise : FlipRate) (before seen before' : List Entry) (held values : List Value) (i : ℕ) (value : Value) (place : Place) (tree : Members) (entry : Entry)
    → held ≡ values → i < length held → value ≡ get_or held i value → place ≡ top key.Entry → table_of place (view value) ≡ Ok tree
    → seen ≡ before → entry_of notes version noise seen tree ≡ Ok entry → before' ≡ before ++ entry ∷ []
    → entries_from notes version noise before (items_view (drop i values)) ≡ entries_from notes version noise before' (items_view (drop (i + 1) values))
next_entry notes version noise before seen before' held values i value place tree entry same inside is here table saw read pushed =
    ap (λ vs. entries_from notes version noise before (items_view vs)) (from_here values i value (rw same at inside) (rw same at is))
    ∙ rw (rw here at table, ◌>>=◌, rw saw at read, ◌>>=◌) (ap (λ b. entries_from notes version noise b (items_view (drop (i + 1) values))) (sym pushed))
