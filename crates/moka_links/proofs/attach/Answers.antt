use Rattle.std.proofs.Common.{rules}
use Rattle.moka_links.proofs.Nodes.{read-before}
use Rattle.moka_links.proofs.attach.Goals as goal

pub offset_bounds-nodes-last : goal.offset_bounds-nodes-last
offset_bounds-nodes-last g c = let inside = read-before c.args.nodes.now c.args.head _ c.index-nodes-head.result c.requires.head c.requires.last in search rules

pub bounds-nodes-last : goal.bounds-nodes-last
bounds-nodes-last g c = let inside = read-before c.args.nodes.now c.args.head _ c.index-nodes-head.result c.requires.head c.requires.last in search rules

pub bounds-nodes-last-2 : goal.bounds-nodes-last-2
bounds-nodes-last-2 g c = let inside = read-before c.args.nodes.now c.args.head _ c.index-nodes-head.result c.requires.head c.requires.last in search rules
