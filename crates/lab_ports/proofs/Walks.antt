-- What walks by hand cite.
pub use mathlib.Core.Path.{refl}
pub use mathlib.Core.List.{List, [], ◌∷◌, ◌++◌}
pub use Prim.Native.Nat.{ℕ}
pub use mir.Val.{Val, vstruct, vcons, vnil}
pub use base.Fml.{Fml}
pub use types.Kit.{‵, raw, ◌⊛◌, ◌$◌, ◌∵◌, !, qed, move, keep, split, join, fjoin, use0, suffices, done}
pub use types.Run.{no_more, and_then, returns, enter}
pub use types.Part.{agg}
pub use types.ByLocal.{alloc_all, pass_all, free_all, look_at, get, sets}
pub use denote.RattleType.{owns}
pub use denote.Exit.{yes}
pub use denote.Shadow.{makes_shadow}
pub use denote.Signature.{Slot, plain, types_at, type_at}
pub use denote.Steps.{nothing}
pub use denote.Triple.Entry.{alive}
pub use denote.Triple.Walked.{says, Stays, stay_dropped, walk_of, ends_at, Goes-dropped}
pub use denote.Ref.{shr_vals}
pub use denote.Slice.{shr_slice_vals}
pub use denote.Builtin.{RefOf}
pub use denote.Text.{StrRefOf}
pub use Rattle.std.proofs.raw_atomic.Walks.{proved}
