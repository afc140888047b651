use Rattle.service_cases.proofs.Staying.{commits_stay}
use Rattle.service_cases.proofs.serving.stores.commit_next.Goals as goal

pub returns : goal.returns
returns c =
    let r = c.requires in
    commits_stay r.0 r.1 c.args.store.now r.2 c.commit.new.self c.commit.result (c.commit.ensures r.0 r.1 r.2)
