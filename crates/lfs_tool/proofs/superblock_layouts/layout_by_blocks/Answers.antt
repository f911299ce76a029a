use Rattle.lfs_tool.proofs.superblock_layouts.layout_by_blocks.Goals as goal

pub returns-in-None-clause-none : goal.returns-in-None-clause-none
returns-in-None-clause-none c = λ none. c.image_superblock_at.ensures.none c.in-None.is
