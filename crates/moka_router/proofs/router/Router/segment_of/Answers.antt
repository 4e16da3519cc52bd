use Rattle.std.proofs.Common.{◌≡◌, ◌∙◌, ap, subst}
use Rattle.moka_records.specs.Hashing.{key_hash}
use Rattle.moka_router.specs.Routing.{segment_of}
use Rattle.moka_router.proofs.router.Router.segment_of.Goals as goal

pub returns-clause-place : goal.returns-clause-place
returns-clause-place g c =
    c.segment_of_hash.ensures.place ∙ ap (segment_of c.args.self.now.count)
    (subst (λ r. c.hash_one.result ≡ key_hash g.S.BuildHasher g.S.Hasher.Hasher r.hasher (g.K.Hash.hash_input c.args.key.now)) c.self.view_is c.hash_one.ensures)
