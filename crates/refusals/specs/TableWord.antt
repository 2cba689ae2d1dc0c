-- The words of the lab file's tables.
use Rattle.std.specs.Prelude.{List, ℕ, codes}
use Rattle.refusals.specs.declared.place.TableName.{TableName}
use Rattle.refusals.specs.declared.place.TableName.TheVariants.{Top, Game, Noise, Entry, Match, Tournament, Rota, Board, Moran, Best, Mean, Certificate, Relation, Ending, Stable}

-- the word of a table; `top` is the file itself, outside all tables
abbrev pub table_word : TableName → List ℕ
table_word Top = codes "top"
table_word Game = codes "game"
table_word Noise = codes "noise"
table_word Entry = codes "entry"
table_word Match = codes "match"
table_word Tournament = codes "tournament"
table_word Rota = codes "rota"
table_word Board = codes "board"
table_word Moran = codes "moran"
table_word Best = codes "best"
table_word Mean = codes "mean"
table_word Certificate = codes "certificate"
table_word Relation = codes "relation"
table_word Ending = codes "ending"
table_word Stable = codes "stable"
