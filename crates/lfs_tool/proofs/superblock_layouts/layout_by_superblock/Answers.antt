use Rattle.std.proofs.Common.{◌∙◌, ap, subst}
use Rattle.lfs_model.specs.declared.limits.Profile.{Profile}
use Rattle.lfs_tool.specs.SuperblockLayouts.{own_layout, superblock_layout_sizes}
use Rattle.lfs_tool.specs.declared.image_layout.ImageLayout.{ImageLayout}
use Rattle.lfs_tool.specs.Sizes.{IsFirstBrokenRule}
use Rattle.lfs_tool.specs.declared.sizes.Sizes.{Sizes}
use Rattle.lfs_tool.proofs.superblock_layouts.layout_by_superblock.Goals as goal

pub returns-in-None-clause-err : goal.returns-in-None-clause-err
returns-in-None-clause-err c = c.image_superblock_at.ensures.none c.in-None.is

pub returns-in-Some-broken_rule-clause-err : goal.returns-in-Some-broken_rule-clause-err
returns-in-Some-broken_rule-clause-err c =
    let profile = ap (λ (p : Profile). record c.args.layout { profile = p }) c.with_limits-profile.ensures in
    let own = c.superblock_layout-own.ensures ∙ ap (λ (layout : ImageLayout). own_layout layout c.in-Some.superblock) (c.with_profile.ensures ∙ profile) in
    let sizes = c.sizes.ensures ∙ ap superblock_layout_sizes own in
    let broken = subst (λ (s : Sizes). IsFirstBrokenRule s c.in-Some-broken_rule.field-0) sizes c.in-Some-broken_rule.ensures.broken in
    (c.in-Some.superblock, (c.in-Some.ensures.found, (c.in-Some-broken_rule.field-0, broken)))
