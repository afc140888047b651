use Rattle.ps_client_sqlite.specs.Keeping.{faults_of}
use Rattle.ps_client_sqlite.proofs.Edited.{rose_where_failed, quiet_where_ok}
use Rattle.ps_client_sqlite.proofs.keeper.SqliteKeeperKeeper.commit.Goals as goal

pub returns-clause-told : goal.returns-clause-told
returns-clause-told g c = c.make.ensures.stands.sound.kept

pub returns-clause-failed : goal.returns-clause-failed
returns-clause-failed g c = rose_where_failed c.make.result (faults_of c.args.self.now) (faults_of c.make.new.self) c.make.ensures.counted

pub returns-clause-quiet : goal.returns-clause-quiet
returns-clause-quiet g c = quiet_where_ok c.make.result (faults_of c.args.self.now) (faults_of c.make.new.self) c.make.ensures.counted
