use Rattle.lfs_tool.proofs.listings.items_of_ram.Goals as goal

pub returns-in-Ok-clause-items : goal.returns-in-Ok-clause-items
returns-in-Ok-clause-items c = (c.in-Ok.image.thread, c.in-Ok.ensures.items)
