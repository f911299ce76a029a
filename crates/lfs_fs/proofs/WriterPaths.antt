-- A writer keeps its path.
use Rattle.std.proofs.Common.{ℕ, ◌≡◌, Bool, true, false, cond, List, [], ◌∷◌, refl}
use Rattle.lfs_model.specs.session.Session.{FileWriter}
use Rattle.lfs_fs.proofs.Common.{synced_writer, truncated_writer, writer_after_write}

either_path : (b : Bool) (w v u : FileWriter) → w.path ≡ u.path → v.path ≡ u.path → (cond b w v).path ≡ u.path
either_path true w v u e f = e
either_path false w v u e f = f

pub write_path : (w : FileWriter) (bytes : List ℕ) → (writer_after_write w bytes).path ≡ w.path
write_path w [] = refl
write_path w (b ∷ bytes) = refl

pub truncate_path : (w : FileWriter) (size : ℕ) → (truncated_writer w size).path ≡ w.path
truncate_path w size = either_path _ _ _ w refl refl

pub sync_path : (w : FileWriter) → (synced_writer w).path ≡ w.path
sync_path w = either_path _ _ _ w refl refl
