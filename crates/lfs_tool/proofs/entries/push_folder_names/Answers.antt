use Rattle.std.proofs.Common.{◌∙◌, ◌++◌, ap, map}
use Rattle.lfs_tool.specs.SourceTrees.{listed_view}
use Rattle.lfs_tool.specs.SourceEntries.{pending_entry_view}
use Rattle.lfs_tool.proofs.Reading.{places_reversed}
use Rattle.lfs_tool.proofs.entries.push_folder_names.Goals as goal

pub returns-clause-within : goal.returns-clause-within
returns-clause-within g c = (
  map listed_view c.in_ok-names.names.items,
  (
    c.in_ok-names.ensures.names,
    c.in_ok-push_pending_names.ensures.places
        ∙ ap (λ ps. map pending_entry_view c.args.waiting.now.items ++ ps) (places_reversed c.args.folder.now c.in_ok-names.names.items c.as_slice.result.now (c.as_slice.ensures.value ∙ c.reverse.ensures.items)),
  ),
)
