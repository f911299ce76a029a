-- The words that most proofs of this crate use.
pub use Rattle.lfs_model.specs.session.Operations.{Operation, Refusal, Reply}
