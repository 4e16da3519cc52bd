use Rattle.std.proofs.lemmas.Option.{IfSome_then}
use Rattle.moka_store.proofs.store.Store.find_by_key.Goals as goal

pub find_by-requires : goal.find_by-requires
find_by-requires g c = record { hashed = λ k same. rw (← g.met.K.Hash.respects_eq c.args.key.now k same) c.requires.hashed }

pub returns-clause-hashed : goal.returns-clause-hashed
returns-clause-hashed g c = IfSome_then c.find_by.result c.find_by.ensures.passes (λ f same. rw (← g.met.K.Hash.respects_eq c.args.key.now f.1.key same) c.requires.hashed)
