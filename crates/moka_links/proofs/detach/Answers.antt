use Rattle.std.proofs.Common.{rules}
use Rattle.moka_links.proofs.Nodes.{read-before, read-behind}
use Rattle.moka_links.proofs.detach.Goals as goal

pub offset_bounds-nodes-before : goal.offset_bounds-nodes-before
offset_bounds-nodes-before g c = let inside = read-before c.args.nodes.now c.args.slot _ c.index-nodes-slot.result c.requires.slot c.requires.before in search rules

pub bounds-nodes-before : goal.bounds-nodes-before
bounds-nodes-before g c = read-before c.args.nodes.now c.args.slot _ c.index-nodes-slot.result c.requires.slot c.requires.before

pub bounds-nodes-before-2 : goal.bounds-nodes-before-2
bounds-nodes-before-2 g c = read-before c.args.nodes.now c.args.slot _ c.index-nodes-slot.result c.requires.slot c.requires.before

pub offset_bounds-nodes-behind : goal.offset_bounds-nodes-behind
offset_bounds-nodes-behind g c = let inside = read-behind c.args.nodes.now c.args.slot _ c.index-nodes-slot-2.result c.requires.slot c.requires.behind in search rules

pub bounds-nodes-behind : goal.bounds-nodes-behind
bounds-nodes-behind g c = let inside = read-behind c.args.nodes.now c.args.slot _ c.index-nodes-slot-2.result c.requires.slot c.requires.behind in search rules

pub bounds-nodes-behind-2 : goal.bounds-nodes-behind-2
bounds-nodes-behind-2 g c = let inside = read-behind c.args.nodes.now c.args.slot _ c.index-nodes-slot-2.result c.requires.slot c.requires.behind in search rules
