pub mod Laws
pub use Rattle.set_making.specs.Making
pub use Rattle.b_sets.specs.Rows as SetRows
pub use Rattle.b_sets.specs.Members as SetMembers
pub use Rattle.b_relations.specs.Relations
pub use Rattle.b_sequences.specs.Sequences
pub use Rattle.b_sequences.specs.Rows as SequenceRows
