use Rattle.ps_store.proofs.Calls.{number_behind, number_made}
use Rattle.ps_store.proofs.stores.Store.write_checkpoint.Goals as goal

pub make-requires : goal.make-requires
make-requires c = number_behind c.requires.0 c.args.self.now c.requires.1 c.requires.2

pub returns : goal.returns
returns c = λ fixed history h.
    number_made fixed c.args.self.now history h c.args.user.now c.args.client.now c.make.new.self c.make.result
    c.make.ensures.answer c.make.ensures.made c.make.ensures.head c.make.ensures.refused c.make.ensures.top
