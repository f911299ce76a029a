mod Mounts
