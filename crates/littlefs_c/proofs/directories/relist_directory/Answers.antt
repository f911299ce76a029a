-- The listing is that of the directory's path.
use Rattle.std.proofs.Common.{◌∙◌, Ok, ap, subst}
use Rattle.lfs_model.specs.session.Operations as ops
use Rattle.lfs_volume.specs.VolumeCalls.{IsSessionCall}
use Rattle.littlefs_values.specs.Buffers.{entries_of_items}
use Rattle.littlefs_c.specs.Directories.{opened_directory}
use Rattle.littlefs_c.specs.DirectoryView.{DirectoryView}
use Rattle.littlefs_c.proofs.directories.relist_directory.Goals as goal

pub returns : goal.returns
returns c = (
  c.in_ok-items.items,
  (
    subst (λ p. IsSessionCall c.args.volume.now (ops.ListAll p) (Ok (ops.Items (entries_of_items c.in_ok-items.items))) c.list.new.self)
        (c.deref.ensures.value ∙ ap (λ (d : DirectoryView). d.path) c.directory.view_is) c.in_ok-items.ensures,
    ap (λ (d : DirectoryView). opened_directory d.path c.in_ok-items.items.items) c.directory.view_is,
  ),
)
