-- Players that hold their rows in a table.
use Rattle.std.proofs.Common.{◌≡◌, ℕ, zero, suc, ◌+◌, ◌<◌, ◌≤◌, ◌^◌, List, length, map, take, replicate, slice_set, slice_index_or, refl, inr, sym, ◌∙◌, arith}
use Rattle.std.proofs.lemmas.List.{take_all, take_more, take_more_set, map_push}
use Rattle.history_model.specs.declared.grid.GridRow.{GridRow}
use Rattle.history_model.specs.declared.moves.Move.{Move}
use Rattle.history_model.specs.declared.moves.Move.TheVariants.{C, D}
use Rattle.history_model.specs.Automaton.{Row, IsAutomaton, plain_row, no_row, row_at, weight_at, next_of}
use Rattle.player_core.specs.declared.kind.Kind.{Kind}
use Rattle.player_core.specs.Holder.{IsHolder, RowsAreHeld, cooperate, cooperator, holder}

-- one row more is written as it stands in the list
written_more : (table : List GridRow) (rows : List Row) (k : ℕ) (row : GridRow) → k < length table → k < length rows
    → map plain_row (take k table) ≡ take k rows → plain_row row ≡ slice_index_or rows k no_row
    → map plain_row (take (k + 1) (slice_set table k row)) ≡ take (k + 1) rows
written_more table rows k row in_table in_rows so_far is =
    rw (take_more_set table k row in_table, map_push plain_row, so_far, is) (sym (take_more rows k no_row in_rows))

-- as many rows as there are
written_all : (table : List GridRow) (rows : List Row) (k n : ℕ) → k ≡ n → length rows ≡ n
    → map plain_row (take k table) ≡ take k rows → map plain_row (take n table) ≡ rows
written_all table rows k n all whole so_far =
    rw (← all) (so_far ∙ take_all k rows (omega arith))

cooperator_weighed : (row : ℕ) → row < 1 → weight_at cooperator row ≤ 1
cooperator_weighed zero inside = omega arith
cooperator_weighed (suc row) inside = absurd (omega arith)

cooperator_closed : (row : ℕ) (mine theirs : Move) → row < 1 → next_of (row_at cooperator row) mine theirs < 1
cooperator_closed zero C C inside = omega arith
cooperator_closed zero C D inside = omega arith
cooperator_closed zero D C inside = omega arith
cooperator_closed zero D D inside = omega arith
cooperator_closed (suc row) mine theirs inside = absurd (omega arith)

cooperator_valid : IsAutomaton cooperator
cooperator_valid = record {
  some = omega arith;
  few = omega arith;
  few_rows = omega arith;
  started = omega arith;
  weighed = cooperator_weighed;
  closed = cooperator_closed;
}

-- a player that is made of a table of such rows
fresh_held : (kind : Kind) (table : List GridRow) (turns returns : ℕ) → turns < 2 ^ 64 → returns < 2 ^ 64 → table ≡ replicate 512 cooperate
    → IsHolder (holder kind (record { den = 1; start = 0; rows = 1 }) table 0 turns returns) (length table) 1
fresh_held kind table turns returns turns_fit returns_fit made =
    rw made (record {
      valid = record {
        automaton = cooperator_valid;
        inside = omega arith;
        turns_fit = turns_fit;
        returns_fit = returns_fit;
        named = inr refl;
      };
      room = refl;
      within = omega arith;
    })

pub rows_are_held : RowsAreHeld
rows_are_held = record { more = written_more; all = written_all; new = fresh_held }
