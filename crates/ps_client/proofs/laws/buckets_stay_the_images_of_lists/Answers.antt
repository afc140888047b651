use Rattle.ps_client.proofs.ListImages.{images_stay}
use Rattle.ps_client.proofs.laws.buckets_stay_the_images_of_lists.Goals as goal

pub returns : goal.returns
returns c = images_stay
