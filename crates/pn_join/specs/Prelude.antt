-- The names that contracts of the crates above cite, passed on from one module. Declares nothing.
pub use Rattle.pn_join.specs.Laws.{JoinLaws}
pub use Rattle.pn_join.specs.Marks.{Positions, Reaches, are_positions, is_position, name_cmp, position_of, raised_marks}
pub use Rattle.pn_join.specs.Naming.{is_name}
pub use Rattle.pn_join.specs.TableChanges.{AreChanges}
pub use Rattle.pn_join.specs.Tables.{IsTable, key_by_key, optional_joined}
